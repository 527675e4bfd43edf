use Rattle.std.proofs.Common.{◌≡◌, map, take}
use Rattle.precond_fixpoint.specs.Solving.{arguments_of}
use Rattle.cert_assembly.proofs.sets.arguments_of.Given as goal

abbrev pub invariant-loop-mode : goal.invariant-loop-mode
invariant-loop-mode l = l.lists ≡ map arguments_of (take l.mode-index l.modes)
