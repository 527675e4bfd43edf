use Rattle.std.proofs.Common.{rules, ◌≡◌, List, ℤ, ap, ◌∙◌, ◌++◌, ◌∷◌, [], length, arith}
use Rattle.std.specs.Int.{w128}
use Rattle.std.specs.Prelude.{FitsSigned}
use Rattle.std.proofs.lemmas.Int.{to_z-of_z}
use Rattle.linear_rows.specs.Solving.{zeros}
use Rattle.redundant_rows.proofs.Appends.{long_append}
use Rattle.simplex.proofs.RowLists.{length-zeros, length_push}
use Rattle.polyhedra.proofs.join_system.first_row.Goals as goal

pub returns-clause-width : goal.returns-clause-width
returns-clause-width c =
    let a = c.args.arity in
    let row = c.args.row.now in
    let g : FitsSigned w128 row.constant = search rules in
    let pushed = simp to_z-of_z at c.in_ok-push.ensures.ok in
    let coeffs : length c.push.new.self ≡ length (zeros a ++ row.coeffs ++ row.constant ∷ []) =
    ap length (pushed ∙ ap (λ (s : List ℤ). s ++ row.constant ∷ []) (c.in_ok-push_all.ensures ∙ ap (λ (s : List ℤ). s ++ row.coeffs) (c.in_ok-push_zeros.ensures ∙ ap (λ (s : List ℤ). s ++ zeros a) c.new-coeffs.ensures))) in
    omega (arith, coeffs, length_push (zeros a ++ row.coeffs) row.constant, long_append (zeros a) row.coeffs, length-zeros a)
