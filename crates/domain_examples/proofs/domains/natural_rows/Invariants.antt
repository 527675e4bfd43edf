use Rattle.std.proofs.Common.{◌≡◌, pos}
use Rattle.std.specs.Prelude.{All, ◌≤ℤ◌}
use Rattle.linear_rows.specs.Plain.{HaveWidth, plain_rows}
use Rattle.domain_examples.proofs.domains.natural_rows.Given as goal

abbrev pub invariant-loop-numbers : goal.invariant-loop-numbers
invariant-loop-numbers l = record {
  width : l.rows.width ≡ l.width;
  rows : HaveWidth l.rows.width l.rows.list;
  natural : All (λ r. All (λ x. pos 0 ≤ℤ x) r) (plain_rows l.rows.list);
}
