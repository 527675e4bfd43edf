use Rattle.std.proofs.Common.{rules, ◌≡◌, ◌-◌, negsuc, List, ℤ, ap, sym, ◌∙◌, ◌++◌, ◌∷◌, length, arith}
use Rattle.std.specs.Int.{w128}
use Rattle.std.specs.Prelude.{FitsSigned}
use Rattle.std.proofs.lemmas.Int.{to_z-of_z}
use Rattle.linear_rows.specs.Solving.{zeros}
use Rattle.redundant_rows.proofs.Appends.{opposite_difference, long_append, long_alone}
use Rattle.polyhedra.proofs.image_system.at_most.Goals as goal

pub returns-clause-row : goal.returns-clause-row
returns-clause-row c =
    let p = c.args.place in
    let a = c.args.arity in
    let g : FitsSigned w128 c.args.expression.now.constant = search rules in
    let coeffs : c.push_all.new.numbers ≡ (zeros p ++ negsuc 0 ∷ zeros (a - p - 1)) ++ c.args.expression.now.coeffs =
    c.in_ok-push_all.ensures ∙ ap (λ (s : List ℤ). s ++ c.args.expression.now.coeffs) (c.in_ok-push_alone.ensures ∙ ap (λ (s : List ℤ). s ++ (zeros p ++ negsuc 0 ∷ zeros (a - p - 1))) c.new-coeffs.ensures) in
    simp to_z-of_z (ap (λ (s : List ℤ). c.args.expression.now.constant ∷ s) coeffs ∙ sym (opposite_difference a p c.args.expression.now.constant c.args.expression.now.coeffs c.requires.place))

pub returns-clause-width : goal.returns-clause-width
returns-clause-width c =
    let p = c.args.place in
    let a = c.args.arity in
    let coeffs : length c.push_all.new.numbers ≡ length ((zeros p ++ negsuc 0 ∷ zeros (a - p - 1)) ++ c.args.expression.now.coeffs) =
    ap length (c.in_ok-push_all.ensures ∙ ap (λ (s : List ℤ). s ++ c.args.expression.now.coeffs) (c.in_ok-push_alone.ensures ∙ ap (λ (s : List ℤ). s ++ (zeros p ++ negsuc 0 ∷ zeros (a - p - 1))) c.new-coeffs.ensures)) in
    omega (arith, coeffs, long_append (zeros p ++ negsuc 0 ∷ zeros (a - p - 1)) c.args.expression.now.coeffs, long_alone p (a - p - 1) (negsuc 0), c.requires.place)
