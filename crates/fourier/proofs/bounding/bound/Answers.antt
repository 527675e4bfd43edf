use Rattle.std.proofs.Common.{rules, ◌∙◌, ap, map, subst}
use Rattle.std.specs.Int.{w128}
use Rattle.std.specs.Prelude.{FitsSigned}
use Rattle.std.proofs.lemmas.Int.{to_z-of_z}
use Rattle.std.proofs.lemmas.Result.{err_from_is_err_and}
use Rattle.exact128.specs.Fractions.{whole}
use Rattle.rational128.specs.Formulas.{fraction_of, Gives}
use Rattle.fourier.proofs.BoundLemmas.{bound_made, bound_none}
use Rattle.fourier.proofs.bounding.bound.Goals as goal

pub returns : goal.returns
returns c =
    let f : FitsSigned w128 c.entry.result = search rules in
    let g : FitsSigned w128 c.entry-2.result = search rules in
    let start = (simp to_z-of_z at c.integer.ensures) ∙ ap whole c.entry.ensures in
    let den = (simp to_z-of_z at c.integer-2.ensures) ∙ ap whole c.entry-2.ensures in
    subst (λ o. Gives o c.div.result) (bound_made c.args.k (map fraction_of c.args.values.now.items) c.args.row.now _ _ _ _ start c.in_ok-sum.ensures c.negated.ensures den) c.div.ensures.exact

pub returns-in_err-sum : goal.returns-in_err-sum
returns-in_err-sum c =
    let f : FitsSigned w128 c.entry.result = search rules in
    let start = (simp to_z-of_z at c.integer.ensures) ∙ ap whole c.entry.ensures in
    rw (err_from_is_err_and c.from_residual.result c.from_residual.ensures.1).1 (bound_none c.args.k (map fraction_of c.args.values.now.items) c.args.row.now _ start c.in_err-sum.ensures)
