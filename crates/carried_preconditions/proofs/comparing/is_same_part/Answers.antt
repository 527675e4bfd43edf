use Rattle.std.proofs.Common.{◌∙◌, sym}
use Rattle.std.proofs.lemmas.Bool.Decides.{Decides-int_eq}
use Rattle.std.proofs.lemmas.Slice.Eq.{slice_eq-Decides}
use Rattle.carried_preconditions.proofs.comparing.is_same_part.Goals as goal

pub returns : goal.returns
returns c =
    let decides = slice_eq-Decides Decides-int_eq _ _ _ c.eq.ensures in
    (λ is. sym c.as_slice.ensures ∙ decides.0 is ∙ c.as_slice-2.ensures, λ is. decides.1 (c.as_slice.ensures ∙ is ∙ sym c.as_slice-2.ensures))
