use Rattle.std.proofs.Common.{◌≡◌, List, length, reverse, ap, sym, ◌∙◌}
use Rattle.std.proofs.lemmas.List.{length-reverse}
use Rattle.bool_diagrams.proofs.Nodes.{length-trees}
use Rattle.bool_diagrams.specs.Tree.{Tree}
use Rattle.bool_diagrams.specs.declared.node.Node.{Node}
use Rattle.bool_diagrams.proofs.table.Table.count.Goals as goal

pub returns : goal.returns
returns c =
    let items = c.self.inside.nodes.items in
    ap (λ (ns : List Node). length ns) c.as_slice.ensures.value ∙ sym (length-reverse items) ∙ sym (length-trees (reverse items)) ∙ ap (λ (ts : List Tree). length ts) c.self.view_is
