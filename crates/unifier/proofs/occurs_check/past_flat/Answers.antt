use Rattle.std.proofs.Common.{ap, sym, ◌∙◌, arith}
use Rattle.unifier.specs.Raised.{raised_tree}
use Rattle.unifier.specs.Shapes.{shape_full}
use Rattle.unifier.proofs.FlatLaws.{flat_met, flat_wider}
use Rattle.unifier.proofs.occurs_check.past_flat.Goals as goal

pub returns-clause-flat : goal.returns-clause-flat
returns-clause-flat c =
    let s = c.args.bindings.now in
    let x = c.args.variable in
    let t = raised_tree c.args.term in
    let n = c.met-met.result.term.base in
    let is = sym c.met-met.ensures.same ∙ c.met-met.ensures.met.tree ∙ ap (shape_full s n) c.in-Compound.is in
    flat_wider s x c.in_ok-inside.inside c.max.result t (omega (arith, c.max.ensures)) (flat_met s x c.in_ok-inside.inside n c.in-Compound.field-0.0 t c.in-Compound.args.now is c.in_ok-inside.ensures)
