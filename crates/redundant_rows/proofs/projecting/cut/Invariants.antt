use Rattle.std.proofs.Common.{◌≡◌, suc, map, take}
use Rattle.linear_rows.specs.Plain.{HaveWidth, plain_rows}
use Rattle.redundant_rows.proofs.projecting.cut.Given as goal

abbrev pub invariant-loop-row : goal.invariant-loop-row
invariant-loop-row l = record {
  width : l.all.width ≡ l.kept;
  widths : HaveWidth l.kept l.all.list;
  rows : plain_rows l.all.list ≡ map (take (suc l.kept)) (plain_rows (take l.row-index l.rows.list));
}
