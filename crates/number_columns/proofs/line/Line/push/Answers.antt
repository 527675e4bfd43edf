use Rattle.std.proofs.Common.{◌∙◌, ◌++◌, ◌∷◌, [], ℤ, List, pos, ap, sym, subst, rules}
use Rattle.std.specs.Int.{w128}
use Rattle.std.specs.Prelude.{FitsSigned}
use Rattle.std.proofs.lemmas.Int.{to_z-of_z}
use Rattle.exact128.specs.Fits.{fits}
use Rattle.linear_rows.specs.Replacing.{row_fits}
use Rattle.number_columns.specs.Lines.{IsNarrowed}
use Rattle.number_columns.proofs.LineLaws.{fits_more, and_kept, and_lost}
use Rattle.number_columns.proofs.line.Line.push.Goals as goal

pub returns-in_ok-push-in-Some : goal.returns-in_ok-push-in-Some
returns-in_ok-push-in-Some c = λ zs n is line.
    let narrow = subst (IsNarrowed (pos n)) c.in-Some.is (c.narrowed.ensures n is) in
    let fits_in : FitsSigned w128 c.in-Some.narrow = search rules in
    let same = to_z-of_z w128 c.in-Some.narrow fits_in in (
      line.0 ∙ sym (fits_more zs (pos n) ∙ and_kept (row_fits zs) (fits (pos n)) narrow.1),
      λ yes. ap (λ (cs : List ℤ). c.args.self.now.constant ∷ cs) c.in_ok-push-in-Some.ensures.ok
          ∙ ap (λ (z : ℤ). c.args.self.now.constant ∷ (c.args.self.now.coeffs ++ z ∷ [])) same
          ∙ (λ i. line.1 yes i ++ narrow.0 i ∷ []),
    )

pub returns-in-None : goal.returns-in-None
returns-in-None c = λ zs n is line.
    let wide = subst (IsNarrowed (pos n)) c.in-None.is (c.narrowed.ensures n is) in
    (sym (fits_more zs (pos n) ∙ and_lost (row_fits zs) (fits (pos n)) wide), λ no. cc)
