use Rattle.bool_diagrams.proofs.table.Table.+walk.Given as goal

abbrev pub decreases-walk : goal.decreases-walk
decreases-walk l = l.number
