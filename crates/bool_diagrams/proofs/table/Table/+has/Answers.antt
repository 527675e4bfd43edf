use Rattle.bool_diagrams.proofs.Tables.{value_constant}
use Rattle.bool_diagrams.proofs.table.Table.+has.Goals as goal

pub returns-then-number-lt2 : goal.returns-then-number-lt2
returns-then-number-lt2 t c = value_constant _ _ _ c.if-number-lt2.true
