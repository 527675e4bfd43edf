use Rattle.solved_program.specs.Resolving.{IsProgress}
use Rattle.solved_program.proofs.resolving.Sources.resolve_each.Given as goal

abbrev pub invariant-loop-c : goal.invariant-loop-c
invariant-loop-c g l = IsProgress g.D.Domain.width g.D.Domain.listed l.self g.D.Domain.speaks (g.N.Norm.expression l.norm) l.c l.progress l.stayed
