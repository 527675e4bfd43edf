use Rattle.std.proofs.Common.{◌≡◌, ◌∷◌, ◌∙◌, rules, sym}
use Rattle.std.proofs.lemmas.Bool.Decides.{Decides-int_eq}
use Rattle.std.proofs.lemmas.Int.{to_z-of_z}
use Rattle.std.proofs.lemmas.Slice.Eq.{slice_eq-Decides}
use Rattle.std.specs.Int.{w128}
use Rattle.std.specs.Prelude.{FitsSigned}
use Rattle.solved_program.proofs.comparing.is_same_row.Goals as goal

pub returns-then-a-b : goal.returns-then-a-b
returns-then-a-b c =
    let a = c.args.a.now in
    let b = c.args.b.now in
    let fits : FitsSigned w128 a.constant = search rules in
    let fits_b : FitsSigned w128 b.constant = search rules in
    let one = to_z-of_z w128 a.constant fits in
    let other = to_z-of_z w128 b.constant fits_b in
    let test = c.if-a-b.true in
    let same : a.constant ≡ b.constant = cc in
    let decides = slice_eq-Decides Decides-int_eq _ _ _ c.eq.ensures in (
      λ is. let coeffs : a.coeffs ≡ b.coeffs = sym c.as_slice.ensures ∙ decides.0 is ∙ c.as_slice-then-a-b.ensures in λ i. same i ∷ coeffs i,
      λ is. let coeffs : a.coeffs ≡ b.coeffs = cc in decides.1 (c.as_slice.ensures ∙ coeffs ∙ sym c.as_slice-then-a-b.ensures),
    )
