use Rattle.std.proofs.Common.{◌≡◌, ◌-◌, pos, List, ℤ, ap, sym, ◌∙◌, ◌++◌, ◌∷◌, length, arith}
use Rattle.linear_rows.specs.Solving.{units, zeros}
use Rattle.fourier.proofs.StartRows.{units_parts}
use Rattle.redundant_rows.proofs.Appends.{long_append}
use Rattle.simplex.proofs.RowLists.{length-zeros}
use Rattle.termination_model.proofs.ImageLaw.{length-units}
use Rattle.size_chains.proofs.tying.own_row.Goals as goal

pub returns-clause-row : goal.returns-clause-row
returns-clause-row c =
    let n = c.args.naturals in
    let m = c.args.more in
    let p = c.args.place in
    let first : c.push_zeros.new.numbers ≡ zeros n = c.in_ok-push_zeros.ensures ∙ ap (λ (s : List ℤ). s ++ zeros n) c.new-coeffs.ensures in
    let coeffs : c.push_alone.new.numbers ≡ zeros n ++ units m p =
    c.in_ok-push_alone.ensures ∙ ap (λ (s : List ℤ). s ++ (zeros p ++ pos 1 ∷ zeros (m - p - 1))) first ∙ ap (λ (s : List ℤ). zeros n ++ s) (sym (units_parts m p c.requires)) in
    ap (λ (cs : List ℤ). pos 0 ∷ cs) coeffs

pub returns-clause-width : goal.returns-clause-width
returns-clause-width c =
    let n = c.args.naturals in
    let m = c.args.more in
    let p = c.args.place in
    let first : c.push_zeros.new.numbers ≡ zeros n = c.in_ok-push_zeros.ensures ∙ ap (λ (s : List ℤ). s ++ zeros n) c.new-coeffs.ensures in
    let coeffs : length c.push_alone.new.numbers ≡ length (zeros n ++ units m p) =
    ap length (c.in_ok-push_alone.ensures ∙ ap (λ (s : List ℤ). s ++ (zeros p ++ pos 1 ∷ zeros (m - p - 1))) first ∙ ap (λ (s : List ℤ). zeros n ++ s) (sym (units_parts m p c.requires))) in
    omega (arith, coeffs, long_append (zeros n) (units m p), length-zeros n, length-units m p)
