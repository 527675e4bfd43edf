use Rattle.std.proofs.Common.{◌≡◌, List, ℤ, ap, ◌∙◌, ◌++◌, length, arith}
use Rattle.linear_rows.specs.Solving.{zeros}
use Rattle.redundant_rows.proofs.Appends.{long_append}
use Rattle.simplex.proofs.RowLists.{length-zeros}
use Rattle.polyhedra.proofs.image_system.behind_arguments.Goals as goal

pub returns-clause-width : goal.returns-clause-width
returns-clause-width c =
    let a = c.args.arity in
    let coeffs : length c.push_all.new.numbers ≡ length (zeros a ++ c.args.row.now.coeffs) =
    ap length (c.in_ok-push_all.ensures ∙ ap (λ (s : List ℤ). s ++ c.args.row.now.coeffs) (c.in_ok-push_zeros.ensures ∙ ap (λ (s : List ℤ). s ++ zeros a) c.new-coeffs.ensures)) in
    omega (arith, coeffs, long_append (zeros a) c.args.row.now.coeffs, length-zeros a)
