use Rattle.std.proofs.Common.{rules, ◌≡◌, ◌-◌, suc, pos, neg_ℤ, List, ℤ, ap, sym, ◌∙◌, ◌++◌, ◌∷◌, length, arith}
use Rattle.std.specs.Int.{w128}
use Rattle.std.specs.Prelude.{FitsSigned}
use Rattle.std.proofs.lemmas.Int.{to_z-of_z}
use Rattle.linear_rows.specs.Solving.{zeros, units}
use Rattle.linear_rows.specs.Systems.{opposite}
use Rattle.redundant_rows.proofs.Appends.{long_append}
use Rattle.fourier.proofs.StartRows.{units_parts}
use Rattle.termination_model.proofs.ImageLaw.{length-units}
use Rattle.std.proofs.lemmas.List.{length-map}
use Rattle.polyhedra.proofs.image_system.at_least.Goals as goal

pub push_opposite-requires : goal.push_opposite-requires
push_opposite-requires c = λ k d l. c.requires.numbers (suc k) d (omega arith)

pub returns-clause-row : goal.returns-clause-row
returns-clause-row c =
    let p = c.args.place in
    let a = c.args.arity in
    let f : FitsSigned w128 c.opposite_of.result = search rules in
    let g : FitsSigned w128 c.args.expression.now.constant = search rules in
    let constant = simp to_z-of_z at c.opposite_of.ensures in
    let first = c.in_ok-push_alone.ensures ∙ ap (λ (s : List ℤ). s ++ (zeros p ++ pos 1 ∷ zeros (a - p - 1))) c.new-coeffs.ensures ∙ sym (units_parts a p c.requires.place) in
    let coeffs : c.push_opposite.new.numbers ≡ units a p ++ opposite c.args.expression.now.coeffs = c.in_ok-push_opposite.ensures ∙ ap (λ (s : List ℤ). s ++ opposite c.args.expression.now.coeffs) first in
    simp to_z-of_z (λ i. constant i ∷ coeffs i)

pub returns-clause-width : goal.returns-clause-width
returns-clause-width c =
    let p = c.args.place in
    let a = c.args.arity in
    let first = c.in_ok-push_alone.ensures ∙ ap (λ (s : List ℤ). s ++ (zeros p ++ pos 1 ∷ zeros (a - p - 1))) c.new-coeffs.ensures ∙ sym (units_parts a p c.requires.place) in
    let coeffs : length c.push_opposite.new.numbers ≡ length (units a p ++ opposite c.args.expression.now.coeffs) = ap length (c.in_ok-push_opposite.ensures ∙ ap (λ (s : List ℤ). s ++ opposite c.args.expression.now.coeffs) first) in
    omega (arith, coeffs, long_append (units a p) (opposite c.args.expression.now.coeffs), length-units a p, length-map c.args.expression.now.coeffs neg_ℤ)
