use Rattle.std.proofs.Common.{refl}
use Rattle.bool_diagrams.proofs.Nodes.{tree_constant}
use Rattle.bool_diagrams.proofs.Renamed.{renamed_in_range}
use Rattle.bool_diagrams.proofs.table.Table.+rename_in.Goals as goal

pub returns-then-a-lt2-clause-renames : goal.returns-then-a-lt2-clause-renames
returns-then-a-lt2-clause-renames t c = record {
  of = c.requires.known;
  rows = λ row. rw (tree_constant c.args.self.now c.args.a c.if-a-lt2.true) refl;
}

pub choose-requires-clause-in_range : goal.choose-requires-clause-in_range
choose-requires-clause-in_range t c =
    rw c.new_name-variable.ensures (renamed_in_range c.args.from.now c.args.to.now c.node_of-node.result.variable c.requires.variables c.node_of-node.ensures.stands.in_range)
