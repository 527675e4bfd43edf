use Rattle.std.proofs.Common.{◌≡◌, ℕ, ◌<◌, ◌-◌, pos, negsuc, neg_ℤ, List, ℤ, ap, sym, ◌∙◌, ◌++◌, ◌∷◌, [], length, arith}
use Rattle.std.proofs.lemmas.List.{length-map}
use Rattle.linear_rows.specs.Solving.{zeros, units}
use Rattle.linear_rows.specs.Systems.{opposite}
use Rattle.redundant_rows.proofs.Appends.{opposite_units, long_append}
use Rattle.fourier.proofs.StartRows.{units_parts}
use Rattle.termination_model.proofs.ImageLaw.{length-units}
use Rattle.simplex.proofs.RowLists.{length_push}
use Rattle.polyhedra.proofs.join_system.difference_row.Goals as goal

row_of : (a p : ℕ) (none first second third : List ℤ) → p < a → none ≡ [] → first ≡ none ++ (zeros p ++ pos 1 ∷ zeros (a - p - 1)) → second ≡ first ++ (zeros p ++ negsuc 0 ∷ zeros (a - p - 1)) → third ≡ second ++ pos 0 ∷ []
    → third ≡ units a p ++ opposite (units a p) ++ pos 0 ∷ []
row_of a p none first second third l en ef es et =
    let one : first ≡ units a p = ef ∙ ap (λ (s : List ℤ). s ++ (zeros p ++ pos 1 ∷ zeros (a - p - 1))) en ∙ sym (units_parts a p l) in
    let two : zeros p ++ negsuc 0 ∷ zeros (a - p - 1) ≡ opposite (units a p) = sym (opposite_units a p l) in
    et ∙ ap (λ (s : List ℤ). s ++ pos 0 ∷ []) (es ∙ (λ i. one i ++ two i))

pub returns-clause-row : goal.returns-clause-row
returns-clause-row c =
    ap (λ (cs : List ℤ). pos 0 ∷ cs) (row_of c.args.arity c.args.place c.new-coeffs.result c.push_alone.new.numbers c.push_alone-2.new.numbers c.push.new.self c.requires c.new-coeffs.ensures c.in_ok-push_alone.ensures c.in_ok-push_alone-2.ensures c.in_ok-push.ensures.ok)

pub returns-clause-width : goal.returns-clause-width
returns-clause-width c =
    let a = c.args.arity in
    let p = c.args.place in
    let e : length c.push.new.self ≡ length (units a p ++ opposite (units a p) ++ pos 0 ∷ []) = ap length (row_of a p c.new-coeffs.result c.push_alone.new.numbers c.push_alone-2.new.numbers c.push.new.self c.requires c.new-coeffs.ensures c.in_ok-push_alone.ensures c.in_ok-push_alone-2.ensures c.in_ok-push.ensures.ok) in
    omega (arith, e, length_push (units a p ++ opposite (units a p)) (pos 0), long_append (units a p) (opposite (units a p)), length-units a p, length-map (units a p) neg_ℤ)
