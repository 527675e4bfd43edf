use Rattle.std.proofs.Common.{◌≡◌, List, ℤ, ap, ◌∙◌, ◌++◌, length, arith}
use Rattle.linear_rows.specs.Solving.{zeros}
use Rattle.redundant_rows.proofs.Appends.{long_append}
use Rattle.simplex.proofs.RowLists.{length-zeros}
use Rattle.size_chains.proofs.tying.widened_row.Goals as goal

pub returns-clause-width : goal.returns-clause-width
returns-clause-width c =
    let m = c.args.more in
    let cs = c.args.row.now.coeffs in
    let coeffs : length c.push_zeros.new.numbers ≡ length (cs ++ zeros m) =
    ap length (c.in_ok-push_zeros.ensures ∙ ap (λ (s : List ℤ). s ++ zeros m) (c.in_ok-push_all.ensures ∙ ap (λ (s : List ℤ). s ++ cs) c.new-coeffs.ensures)) in
    omega (arith, coeffs, long_append cs (zeros m), length-zeros m)
