use Rattle.std.proofs.Common.{arith, reverse}
use Rattle.std.proofs.lemmas.List.{length-reverse}
use Rattle.bool_diagrams.proofs.Nodes.{of_nodes, reduced}
use Rattle.bool_diagrams.proofs.Tables.{stands_in}
use Rattle.bool_diagrams.proofs.table.Table.node_of.Goals as goal

pub index-requires : goal.index-requires
index-requires c =
    let of = of_nodes (reverse c.self.inside.nodes.items) c.args.number (rw c.self.view_is c.requires.of) in
    let len = length-reverse c.self.inside.nodes.items in
    omega arith

pub returns-clause-stands : goal.returns-clause-stands
returns-clause-stands c = rw (← c.self.view_is) (stands_in c.self.inside.nodes.items c.args.number c.index.result.now c.self.invariant.sound c.requires.above (rw c.self.view_is c.requires.of) c.index.ensures)

pub returns-clause-reduced : goal.returns-clause-reduced
returns-clause-reduced c = rw (← c.self.view_is) (reduced (reverse c.self.inside.nodes.items) c.args.number c.self.invariant.sound (rw c.self.view_is c.requires.of))
