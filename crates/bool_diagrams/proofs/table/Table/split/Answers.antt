use Rattle.bool_diagrams.proofs.Tables.{splits_constant}
use Rattle.bool_diagrams.proofs.table.Table.split.Goals as goal

pub returns-then-number-lt2 : goal.returns-then-number-lt2
returns-then-number-lt2 c = splits_constant _ _ _ c.if-number-lt2.true c.requires.of
