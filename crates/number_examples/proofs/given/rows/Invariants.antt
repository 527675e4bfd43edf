use Rattle.std.proofs.Common.{◌≡◌}
use Rattle.linear_rows.specs.Plain.{HaveWidth}
use Rattle.number_examples.proofs.given.rows.Given as goal

abbrev pub invariant-loop-numbers : goal.invariant-loop-numbers
invariant-loop-numbers l = record {
  width : l.rows.width ≡ l.width;
  rows : HaveWidth l.rows.width l.rows.list;
}
