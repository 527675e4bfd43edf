use Rattle.call_components.proofs.Partitions.{are_components}
use Rattle.call_components.proofs.strong_components.components.Goals as goal

pub returns : goal.returns
returns c =
    are_components c.args.p.now c.in_ok-table.table c.in_ok-numbering.numbering.of.items c.in_ok-numbering.numbering.count c.in_ok-members.members c.in_ok-recursive.recursive.items
    c.in_ok-table.ensures.table c.in_ok-numbering.ensures c.in_ok-members.ensures c.in_ok-recursive.ensures.count c.in_ok-recursive.ensures.answer
