use Rattle.std.proofs.Common.{◌≡◌, replicate, []}
use Rattle.precond_fixpoint.proofs.columns.no_sets.Given as goal

abbrev pub invariant-loop-q : goal.invariant-loop-q
invariant-loop-q l = l.sets.items ≡ replicate l._q []
