use Rattle.std.proofs.Common.{length}
use Rattle.termination_model.specs.claims.Claims.{Mapping}
use Rattle.level_dual.specs.Vanishing.{IsSilent, Vanishes}
use Rattle.level_dual.proofs.vanishing.mark_call.Given as goal

abbrev pub invariant-loop-argument : goal.invariant-loop-argument
invariant-loop-argument l = (m : Mapping) → IsSilent m l.own.callee.0 l.own.callee_sizes l.ray (length l.own.callee_sizes.list) → Vanishes l.places.positions.now l.fn.marks.items m → Vanishes l.places.positions.now l.marks.items m
