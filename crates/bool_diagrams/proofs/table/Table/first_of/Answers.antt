use Rattle.bool_diagrams.proofs.Nodes.{tree_constant}
use Rattle.bool_diagrams.proofs.table.Table.first_of.Goals as goal

pub returns-then-number-lt2-clause-from : goal.returns-then-number-lt2-clause-from
returns-then-number-lt2-clause-from c = rw (tree_constant c.args.self.now c.args.number c.if-number-lt2.true) tt

pub returns-then-number-lt2-clause-reduced : goal.returns-then-number-lt2-clause-reduced
returns-then-number-lt2-clause-reduced c = rw (tree_constant c.args.self.now c.args.number c.if-number-lt2.true) tt
