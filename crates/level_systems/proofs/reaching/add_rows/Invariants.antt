use Rattle.std.proofs.Common.{◌≡◌, ◌++◌, map, take, pos}
use Rattle.linear_rows.specs.Plain.{plain_rows, HaveWidth}
use Rattle.linear_rows.specs.Systems.{at_last}
use Rattle.level_systems.proofs.reaching.add_rows.Given as goal

abbrev pub invariant-loop-row : goal.invariant-loop-row
invariant-loop-row l = record {
  width : l.test.width ≡ l.fn.test.width;
  widths : HaveWidth l.test.width l.test.list;
  rows : plain_rows l.test.list ≡ plain_rows l.fn.test.list ++ map (λ r. at_last r (pos 0)) (plain_rows (take l.row-index l.rows.list));
}
