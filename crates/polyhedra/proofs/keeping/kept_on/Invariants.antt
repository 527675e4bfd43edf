use Rattle.std.proofs.Common.{◌≡◌, take}
use Rattle.linear_rows.specs.Plain.{HaveWidth, plain_rows}
use Rattle.polyhedra.specs.Keeping.{IsKept}
use Rattle.polyhedra.specs.Remembering.{IsPointOf}
use Rattle.polyhedra.proofs.keeping.kept_on.Given as goal

abbrev pub invariant-loop-row : goal.invariant-loop-row
invariant-loop-row l = record {
  width : l.kept.rows.width ≡ l.rows.width;
  widths : HaveWidth l.rows.width l.kept.rows.list;
  last : IsPointOf l.system l.kept.last;
  says : IsKept l.system (plain_rows (take l.row-index l.rows.list)) l.kept;
}
