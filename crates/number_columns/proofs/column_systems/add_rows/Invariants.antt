use Rattle.std.proofs.Common.{◌≡◌, ◌++◌, ◌||◌, map, take}
use Rattle.linear_rows.specs.Plain.{HaveWidth, plain_rows}
use Rattle.termination_model.specs.sizes.Sizes.{wide_rows}
use Rattle.termination_model.specs.sizes.ShortSystems.{short_row}
use Rattle.number_columns.specs.ColumnLists.{plain_columns}
use Rattle.number_columns.specs.ColumnSystems.{row_or_zeros}
use Rattle.number_columns.proofs.column_systems.add_rows.Given as goal

abbrev pub invariant-loop-row : goal.invariant-loop-row
invariant-loop-row l = record {
  variables : l.system.variables ≡ l.fn.system.variables;
  head : l.system.head ≡ l.fn.system.head;
  width : l.system.rows.width ≡ l.fn.system.rows.width;
  widths : HaveWidth l.fn.system.rows.width l.system.rows.list;
  rows : plain_rows l.system.rows.list ≡ plain_rows l.fn.system.rows.list ++ map short_row (map (row_or_zeros l.fn.system.rows.width (plain_columns l.list)) (take l.row-index (plain_rows l.own.list)));
  wide : l.system.wide ≡ (l.fn.system.wide || wide_rows (map (row_or_zeros l.fn.system.rows.width (plain_columns l.list)) (take l.row-index (plain_rows l.own.list))));
}
