use Rattle.std.proofs.Common.{ℕ, ◌≤◌}
use Rattle.unifier.proofs.FlatLaws.{AllFlat}
use Rattle.unifier.proofs.LeadLaws.{arguments_from}
use Rattle.unifier.proofs.occurs_check.above_leaves.Given as goal

abbrev pub invariant-loop-term : goal.invariant-loop-term
invariant-loop-term l = (m : ℕ) → l.above ≤ m → AllFlat l.bindings l.variable m (arguments_from l.base l.term-index l.term-items) → AllFlat l.bindings l.variable m (arguments_from l.base 0 l.term-items)
