use Rattle.std.proofs.Common.{◌≡◌, ◌∷◌, ◌∙◌, ap, rules, sym}
use Rattle.std.specs.Int.{cast_signed, w128}
use Rattle.std.specs.Prelude.{FitsSigned}
use Rattle.std.proofs.lemmas.Bool.Decides.{Decides-int_eq}
use Rattle.std.proofs.lemmas.Int.{to_z-of_z}
use Rattle.std.proofs.lemmas.Slice.Eq.{slice_eq-Decides}
use Rattle.size_chains.proofs.sharing.is_same_row.Goals as goal

pub returns-then-a-b : goal.returns-then-a-b
returns-then-a-b c = λ is.
    let decides = slice_eq-Decides Decides-int_eq _ _ _ c.eq.ensures in
    let coeffs : c.args.a.now.coeffs ≡ c.args.b.now.coeffs = sym c.as_slice.ensures ∙ decides.0 is ∙ c.as_slice-then-a-b.ensures in
    let one : FitsSigned w128 c.args.a.now.constant = search rules in
    let two : FitsSigned w128 c.args.b.now.constant = search rules in
    let constant : c.args.a.now.constant ≡ c.args.b.now.constant = sym (to_z-of_z w128 c.args.a.now.constant one) ∙ ap (cast_signed w128) c.if-a-b.true ∙ to_z-of_z w128 c.args.b.now.constant two in
    λ i. constant i ∷ coeffs i
