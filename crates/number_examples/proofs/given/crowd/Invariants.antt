use Rattle.std.proofs.Common.{◌≡◌}
use Rattle.linear_rows.specs.Plain.{HaveWidth}
use Rattle.number_examples.proofs.given.crowd.Given as goal

abbrev pub invariant-loop-i : goal.invariant-loop-i
invariant-loop-i l = record {
  width : l.rows.width ≡ 3;
  rows : HaveWidth l.rows.width l.rows.list;
}
