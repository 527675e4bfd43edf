use Rattle.std.proofs.Common.{◌≡◌, ◌∙◌, ◌++◌, List, ap}
use Rattle.linear_rows.specs.Plain.{plain_rows}
use Rattle.linear_rows.specs.declared.row.Row.{Row}
use Rattle.termination_model.specs.columns.Measures.{stated_rows}
use Rattle.number_columns.proofs.StatedLaws.{rows_of_width, stated_long}
use Rattle.number_columns.proofs.stated.stated_value_rows.Goals as goal

pub returns-clause-widths : goal.returns-clause-widths
returns-clause-widths c = rows_of_width 6 c.add_stated.new.rows.list (stated_rows c.args.kind) (c.in_ok-add_stated.ensures.rows ∙ ap (λ (rs : List Row). plain_rows rs ++ stated_rows c.args.kind) c.new-rows.ensures.list) (stated_long c.args.kind)
