use Rattle.std.proofs.Common.{◌≡◌, ◌<◌, ◌≤ℤ◌, ℕ, slice_get, Some}
use Rattle.cti_terms.specs.declared.predicates.PredId.{PredId}
use Rattle.exact128.specs.Sums.{entry}
use Rattle.number_tests.specs.Sums.{sum_at}
use Rattle.number_tests.proofs.member_sums.are_lighter.Given as goal

abbrev pub invariant-loop-member : goal.invariant-loop-member
invariant-loop-member l = (k : ℕ) → k < l.member-index → (m : PredId) → slice_get l.members k ≡ Some m → (i : ℕ) → entry (sum_at l.heads m.0) i ≤ℤ entry (sum_at l.calls m.0) i
