use Rattle.std.proofs.Common.{◌≡◌, ◌*◌, take}
use Rattle.linear_rows.specs.Plain.{HaveWidth, plain_rows}
use Rattle.termination_model.specs.sizes.Sizes.{rows_of}
use Rattle.number_columns.specs.ColumnLists.{counts_at}
use Rattle.number_columns.specs.ColumnSystems.{has_wide_row, short_rows}
use Rattle.number_columns.proofs.column_systems.column_system.Given as goal

abbrev pub invariant-loop-i : goal.invariant-loop-i
invariant-loop-i g l = record {
  variables : l.system.variables ≡ l.clause.vars;
  width : l.system.rows.width ≡ l.clause.vars * (g.C.Columns.columns l.columns).width;
  widths : HaveWidth l.system.rows.width l.system.rows.list;
  head : l.system.head ≡ l.initial.system.head;
  rows : plain_rows l.system.rows.list ≡ short_rows (g.C.Columns.columns l.columns) (counts_at (g.C.Columns.count l.columns) (g.C.Columns.listed l.columns)) (rows_of l.sizes) l.clause.vars (take l.i l.clause.body);
  wide : l.system.wide ≡ has_wide_row (g.C.Columns.columns l.columns) (counts_at (g.C.Columns.count l.columns) (g.C.Columns.listed l.columns)) (rows_of l.sizes) l.clause.vars (take l.i l.clause.body);
}
