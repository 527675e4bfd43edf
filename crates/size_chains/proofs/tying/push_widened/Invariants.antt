use Rattle.std.proofs.Common.{◌≡◌, ◌++◌, drop, map}
use Rattle.linear_rows.specs.Plain.{plain_rows, HaveWidth}
use Rattle.size_chains.specs.Systems.{widened}
use Rattle.size_chains.proofs.tying.push_widened.Given as goal

abbrev pub invariant-loop-row : goal.invariant-loop-row
invariant-loop-row l = record {
  width : l.wide.width ≡ l.fn.wide.width;
  widths : HaveWidth l.fn.wide.width l.wide.list;
  rows : plain_rows l.wide.list ++ map (widened l.more) (plain_rows (drop l.row-index l.rows.list)) ≡ plain_rows l.fn.wide.list ++ map (widened l.more) (plain_rows l.rows.list);
}
