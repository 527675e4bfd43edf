use Rattle.std.proofs.Common.{◌≡◌, ◌++◌, ◌||◌, map, take}
use Rattle.linear_rows.specs.Plain.{HaveWidth, plain_rows}
use Rattle.termination_model.specs.sizes.Replacing.{over_columns}
use Rattle.termination_model.specs.sizes.Sizes.{wide_rows}
use Rattle.termination_model.specs.sizes.ShortSystems.{short_row}
use Rattle.termination_model.proofs.systems.add_rows.Given as goal

abbrev pub invariant-loop-row : goal.invariant-loop-row
invariant-loop-row l = record {
  variables : l.system.variables ≡ l.fn.system.variables;
  head : l.system.head ≡ l.fn.system.head;
  width : l.system.rows.width ≡ l.fn.system.variables;
  widths : HaveWidth l.fn.system.variables l.system.rows.list;
  rows : plain_rows l.system.rows.list ≡ plain_rows l.fn.system.rows.list ++ map short_row (map (over_columns l.columns) (take l.row-index (plain_rows l.own.list)));
  wide : l.system.wide ≡ (l.fn.system.wide || wide_rows (map (over_columns l.columns) (take l.row-index (plain_rows l.own.list))));
}
