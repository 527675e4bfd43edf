use Rattle.bool_diagrams.proofs.table.Table.+quantify.Given as goal

abbrev pub decreases-quantify : goal.decreases-quantify
decreases-quantify l = l.a
