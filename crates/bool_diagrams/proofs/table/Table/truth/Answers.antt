use Rattle.std.proofs.Common.{arith, sym, ◌∙◌}
use Rattle.bool_diagrams.proofs.Tables.{value_constant}
use Rattle.bool_diagrams.proofs.table.Table.truth.Goals as goal

pub returns-then-value-clause-rows : goal.returns-then-value-clause-rows
returns-then-value-clause-rows c = λ row. sym (value_constant c.args.self.now 1 row (omega arith)) ∙ sym c.if-value.true

pub returns-else-value-clause-rows : goal.returns-else-value-clause-rows
returns-else-value-clause-rows c = λ row. sym (value_constant c.args.self.now 0 row (omega arith)) ∙ sym c.if-value.false
