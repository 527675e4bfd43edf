use Rattle.std.proofs.Common.{◌≡◌, length}
use Rattle.linear_rows.specs.Plain.{plain_rows, HaveWidth}
use Rattle.redundant_rows.specs.Sweeping.{IsLess}
use Rattle.redundant_rows.proofs.sweeping.irredundant.Given as goal

abbrev pub invariant-loop-swept : goal.invariant-loop-swept
invariant-loop-swept l = record {
  width : l.left.width ≡ l.fn.rows.width;
  widths : HaveWidth l.fn.rows.width l.left.list;
  less : IsLess l.fn.rows.width (plain_rows l.fn.rows.list) (plain_rows l.left.list);
}

abbrev pub decreases-loop-swept : goal.decreases-loop-swept
decreases-loop-swept l = length l.left.list
