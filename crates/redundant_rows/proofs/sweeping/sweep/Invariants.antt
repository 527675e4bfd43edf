use Rattle.std.proofs.Common.{◌≡◌, ◌<◌, ◌≤◌, ◌-◌, length, true, false}
use Rattle.linear_rows.specs.Plain.{plain_rows, HaveWidth}
use Rattle.redundant_rows.specs.Sweeping.{IsSwept, IsLess}
use Rattle.redundant_rows.proofs.sweeping.sweep.Given as goal

abbrev pub invariant-loop-place : goal.invariant-loop-place
invariant-loop-place l = record {
  width : l.rows.width ≡ l.fn.rows.width;
  widths : HaveWidth l.fn.rows.width l.rows.list;
  less : IsLess l.fn.rows.width (plain_rows l.fn.rows.list) (plain_rows l.rows.list);
  swept : l.fewer ≡ false → IsSwept l.fn.rows.width (plain_rows l.rows.list) l.place;
  count : length l.rows.list ≤ length l.fn.rows.list;
  fewer : l.fewer ≡ true → length l.rows.list < length l.fn.rows.list;
}

abbrev pub decreases-loop-place : goal.decreases-loop-place
decreases-loop-place l = length l.rows.list - l.place
