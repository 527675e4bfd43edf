use Rattle.std.proofs.Common.{◌≡◌, pos, negsuc, [], ◌∷◌, sym, ◌∙◌, arith}
use Rattle.std.proofs.lemmas.Int.{ints}
use Rattle.std.proofs.lemmas.Slice.Eq.{slice_eq-Decides}
use Rattle.std.specs.Cmp.{signed_Decides}
use Rattle.cert_checker.proofs.stated_faults.is_row_of_is.Goals as goal

pub returns-then-row-eq0 : goal.returns-then-row-eq0
returns-then-row-eq0 c =
    let row = c.args.row.now in
    let decides = slice_eq-Decides signed_Decides c.as_slice.result.now c.as_slice-then-row-eq0.result.now c.eq.result c.eq.ensures in
    let zero : row.constant ≡ pos 0 = omega (arith, ints, c.if-row-eq0.true) in (
      λ yes. let coeffs : row.coeffs ≡ negsuc 0 ∷ (pos 0 ∷ []) = sym c.as_slice.ensures ∙ decides.0 yes ∙ c.as_slice-then-row-eq0.ensures in λ i. sym zero i ∷ sym coeffs i,
      λ same. let coeffs : row.coeffs ≡ negsuc 0 ∷ (pos 0 ∷ []) = cc in decides.1 (c.as_slice.ensures ∙ coeffs ∙ sym c.as_slice-then-row-eq0.ensures),
    )
