use Rattle.std.proofs.Common.{◌≡◌, length, pos}
use Rattle.std.specs.Prelude.{All, ◌≤ℤ◌}
use Rattle.domain_examples.proofs.domains.natural_row.Given as goal

abbrev pub invariant-loop-number : goal.invariant-loop-number
invariant-loop-number l = record {
  count : length l.coeffs ≡ l.number-index;
  natural : All (λ x. pos 0 ≤ℤ x) l.coeffs;
}
