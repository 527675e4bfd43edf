use Rattle.std.proofs.Common.{map, ap, ◌∙◌, arith}
use Rattle.cti_terms.specs.Tree.{instance, nodes_of}
use Rattle.cti_terms.specs.Spell.{tree_of}
use Rattle.unifier.specs.Raised.{raise}
use Rattle.unifier.specs.Shapes.{shape_full}
use Rattle.unifier.specs.Pending.{raw, weight}
use Rattle.unifier.proofs.PendingLaws.{weight-append, weight-arguments}
use Rattle.ld_resolver.proofs.answer.push_parts.Goals as goal

pub returns-in_ok-push_arguments-in-Compound : goal.returns-in_ok-push_arguments-in-Compound
returns-in_ok-push_arguments-in-Compound c =
    let s = c.args.bindings.now in
    let n = c.args.met.term.base in
    let ts = map tree_of c.in-Compound.args.now in
    let h = c.requires.tree ∙ ap (shape_full s n) c.in-Compound.is in
    let pushed = ap (weight s) c.in_ok-push_arguments-in-Compound.ensures ∙ weight-append s (raw c.args.stack.now.items) (map (instance (raise n)) ts) in
    omega (arith, pushed, weight-arguments s n ts, ap nodes_of h)
