use Rattle.std.proofs.Common.{rules, ◌≡◌, ◌+◌, List, ℤ, ap, ◌∙◌, ◌++◌, ◌∷◌, [], length, arith}
use Rattle.std.specs.Int.{w128}
use Rattle.std.specs.Prelude.{FitsSigned}
use Rattle.std.proofs.lemmas.Int.{to_z-of_z}
use Rattle.linear_rows.specs.Solving.{zeros}
use Rattle.simplex.proofs.RowLists.{length-zeros, length_push}
use Rattle.polyhedra.proofs.join_system.share_row.Goals as goal

pub returns-clause-width : goal.returns-clause-width
returns-clause-width c =
    let a = c.args.arity in
    let g : FitsSigned w128 c.args.number = search rules in
    let pushed = simp to_z-of_z at c.in_ok-push.ensures.ok in
    let coeffs : length c.push.new.self ≡ length (zeros (a + a) ++ c.args.number ∷ []) =
    ap length (pushed ∙ ap (λ (s : List ℤ). s ++ c.args.number ∷ []) (c.in_ok-push_zeros.ensures ∙ ap (λ (s : List ℤ). s ++ zeros (a + a)) c.new-coeffs.ensures)) in
    omega (arith, coeffs, length_push (zeros (a + a)) c.args.number, length-zeros (a + a))
