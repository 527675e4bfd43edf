use Rattle.std.proofs.Common.{◌≡◌, ◌++◌, map, take, pos}
use Rattle.linear_rows.specs.Plain.{plain_rows, HaveWidth}
use Rattle.linear_rows.specs.Systems.{at_last}
use Rattle.simplex.proofs.systems.add_rows.Given as goal

abbrev pub invariant-loop-row : goal.invariant-loop-row
invariant-loop-row l = record {
  width : l.system.width ≡ l.fn.system.width;
  widths : HaveWidth l.system.width l.system.list;
  rows : plain_rows l.system.list ≡ plain_rows l.fn.system.list ++ map (λ r. at_last r (pos 0)) (plain_rows (take l.row-index l.rows.list));
}
