use Rattle.std.proofs.Common.{◌≡◌, ◌==◌, true, false, rules}
use Rattle.termination_model.specs.columns.Expressions.{constant_rows}
use Rattle.termination_model.specs.columns.Measures.{no_parts}
use Rattle.number_columns.proofs.CellLaws.{one_minus, one_other}
use Rattle.number_columns.proofs.cell.cell_of_one.Goals as goal

pub returns-then-eq : goal.returns-then-eq
returns-then-eq c = λ vars l p h.
    let test : (c.args.name.0 == c.args.arith.minus.0) ≡ true = search rules in
    one_minus vars l p c.negated.result (c.args.name.0 == c.args.arith.minus.0) test (c.negated.ensures l p h)

pub returns-else-eq : goal.returns-else-eq
returns-else-eq c = λ vars l p h.
    let test : (c.args.name.0 == c.args.arith.minus.0) ≡ false = search rules in
    one_other vars l p c.still.result (c.args.name.0 == c.args.arith.minus.0) test (c.still.ensures (constant_rows vars no_parts))
