use Rattle.std.proofs.Common.{sym, ◌∙◌, reverse}
use Rattle.bool_diagrams.specs.declared.node.Node.{Node}
use Rattle.bool_diagrams.proofs.Tables.{Added, chooses_found, added_to}
use Rattle.bool_diagrams.proofs.table.Table.node.Goals as goal

pub returns-in-Some-clause-made : goal.returns-in-Some-clause-made
returns-in-Some-clause-made c =
    let n : Node = record { variable = c.args.variable; low = c.args.low; high = c.args.high } in
    rw (← c.self.view_is) (chooses_found _ c.self.inside.unique c.self.inside.memo.answers.entries n c.in-Some.number c.self.invariant (sym c.in-Some.ensures))

added_here : (c : goal.After-add)
    → Added c.args.self.now (reverse c.add.new.nodes.items) c.add.new.unique c.self.inside.memo.answers.entries (record { variable = c.args.variable; low = c.args.low; high = c.args.high }) c.add.result
added_here c =
    let n : Node = record { variable = c.args.variable; low = c.args.low; high = c.args.high } in
    added_to c.args.self.now c.self.inside.nodes.items c.add.new.nodes.items c.self.inside.unique c.add.new.unique c.self.inside.memo.answers.entries n c.add.result
    c.self.view_is c.self.invariant (sym c.look_up.ensures ∙ c.in_default.is)
    (record { in_range = c.requires.in_range; low_of = c.requires.low_of; high_of = c.requires.high_of; apart = c.if-low-high.false; low_from = c.requires.low_from; high_from = c.requires.high_from })
    c.add.ensures.number c.add.ensures.nodes c.add.ensures.updates c.add.ensures.unchanged

pub invariant_of-self : goal.invariant_of-self
invariant_of-self c = (added_here c).0

pub returns-clause-keeps : goal.returns-clause-keeps
returns-clause-keeps c = (added_here c).1

pub returns-clause-made : goal.returns-clause-made
returns-clause-made c = (added_here c).2
