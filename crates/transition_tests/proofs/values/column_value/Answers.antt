use Rattle.std.proofs.Common.{◌∙◌, Option, Some, ap, sym, subst}
use Rattle.exact128.specs.Sums.{dot}
use Rattle.linear_rows.specs.declared.row.Row.{Row}
use Rattle.number_columns.specs.ColumnLists.{plain_column}
use Rattle.number_tests.specs.Refuting.{numbers_of}
use Rattle.termination_model.specs.columns.ColumnRows.{or_empty}
use Rattle.transition_tests.specs.StuckGroups.{ColumnFits}
use Rattle.transition_tests.proofs.Shares.{dot_empty}
use Rattle.transition_tests.proofs.values.column_value.Goals as goal

pub returns-in-None : goal.returns-in-None
returns-in-None c = (
  subst (λ (o : Option Row). ColumnFits c.args.point.now (Some (plain_column o))) (sym c.in-None.is) tt,
  sym (dot_empty (numbers_of c.args.point.now)) ∙ ap (λ (o : Option Row). dot (or_empty (plain_column o)) (numbers_of c.args.point.now)) (sym c.in-None.is),
)
