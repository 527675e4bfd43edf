use Rattle.bool_diagrams.proofs.table.Table.+has.Given as goal

abbrev pub decreases-has : goal.decreases-has
decreases-has l = l.number
