use Rattle.std.proofs.Common.{◌≡◌, ℕ, true, length, drop}
use Rattle.unifier.specs.Visits.{is_among, flag}
use Rattle.unifier.proofs.visited.lower.Given as goal

abbrev pub invariant-loop-variable : goal.invariant-loop-variable
invariant-loop-variable l = record {
  up : (x : ℕ) → flag l.flags.items x ≡ true → is_among (drop l.variable-index l.variables) x ≡ true;
  size : length l.flags.items ≡ length l.fn.flags.items;
}
