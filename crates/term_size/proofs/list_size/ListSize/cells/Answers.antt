use Rattle.std.proofs.Common.{◌≡◌, Some, option_map, ap, sym, ◌∙◌, arith}
use Rattle.cti_terms.specs.Spell.{tree_of}
use Rattle.term_size.specs.ListSize.{tail_of}
use Rattle.term_size.proofs.ListLaws.{is_cell}
use Rattle.term_size.proofs.list_size.ListSize.cells.Goals as goal

pub loop-tail-preserved : goal.loop-tail-preserved
loop-tail-preserved c =
    let d = c.args.self.dot in
    let i = c.loop-tail.invariant in
    let at : tail_of d (tree_of c.loop-tail.rest.now) ≡ Some (tree_of c.in-Some.tail.now) = sym c.tail_of.ensures ∙ ap (option_map (λ u. tree_of u.now)) c.in-Some.is in
    let k = is_cell d (tree_of c.loop-tail.rest.now) (tree_of c.in-Some.tail.now) at in
    record { counted = omega (arith, k.size, i.counted); ends = sym k.end ∙ i.ends; few = omega (arith, k.nodes, i.few) }
