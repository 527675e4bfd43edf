use Rattle.bool_diagrams.specs.Nodes.{trees}
use Rattle.std.proofs.Common.{refl}
use Rattle.bool_diagrams.proofs.table.Table.new.Goals as goal

pub returns : goal.returns
unfolding trees
returns c = rw c.new-2.ensures.items refl
