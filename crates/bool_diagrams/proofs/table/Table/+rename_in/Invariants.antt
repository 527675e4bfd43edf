use Rattle.bool_diagrams.proofs.table.Table.+rename_in.Given as goal

abbrev pub decreases-rename_in : goal.decreases-rename_in
decreases-rename_in l = l.a
