use Rattle.std.proofs.Common.{◌≡◌, ◌-◌, length}
use Rattle.linear_rows.specs.Plain.{plain_rows, HaveWidth}
use Rattle.redundant_rows.specs.Sweeping.{IsLess}
use Rattle.redundant_rows.proofs.undominated.undominated.Given as goal

abbrev pub invariant-loop-place : goal.invariant-loop-place
invariant-loop-place l = record {
  width : l.rows.width ≡ l.fn.rows.width;
  widths : HaveWidth l.fn.rows.width l.rows.list;
  signs : length l.signs.items ≡ length l.rows.list;
  less : IsLess l.fn.rows.width (plain_rows l.fn.rows.list) (plain_rows l.rows.list);
}

abbrev pub decreases-loop-place : goal.decreases-loop-place
decreases-loop-place l = length l.rows.list - l.place
