use Rattle.std.proofs.Common.{◌≡◌, ◌∙◌, sym, Some}
use Rattle.std.proofs.lemmas.Option.{none-some}
use Rattle.certificate.specs.Text.{fact_text}
use Rattle.certificate.specs.Parse.{after}
use Rattle.certificate.proofs.LineLemmas.{taken_off, read_same, read_some, fault_only, text_only, same_after}
use Rattle.certificate.proofs.certificate.first_fact.Goals as goal

pub returns-in_err-fact-clause-only : goal.returns-in_err-fact-clause-only
returns-in_err-fact-clause-only c f s h e =
    fault_only (λ p. (p.0 ≡ f) × (p.1.now ≡ s)) c.from_residual.result _ _ c.from_residual.ensures c.in_err-fact.ensures.value (read_some f s c.args.text.now h e)

pub returns-in_err-after-clause-only : goal.returns-in_err-after-clause-only
returns-in_err-after-clause-only c f s h e =
    let (same, rest) = read_same f c.in_ok-fact.fact s _ c.args.text.now h e c.in_ok-fact.ensures.value in
    let line : c.as_slice.result.now ≡ fact_text c.in_ok-fact.fact = c.as_slice.ensures.value ∙ c.in_ok-line.ensures in
    let found : after c.as_slice.result.now c.args.text.now ≡ Some s = rw line rest in
    text_only (λ p. (p.0 ≡ f) × (p.1.now ≡ s)) c.from_residual-in_err-after.result _ _ c.from_residual-in_err-after.ensures c.in_err-after.ensures
    λ none. none-some _ (sym none ∙ found)

pub returns-clause-value : goal.returns-clause-value
returns-clause-value c =
    let line : c.as_slice.result.now ≡ fact_text c.in_ok-fact.fact = c.as_slice.ensures.value ∙ c.in_ok-line.ensures in
    (c.in_ok-fact.ensures.fits, rw (← line) (taken_off _ _ _ c.in_ok-after.ensures))

pub returns-clause-only : goal.returns-clause-only
returns-clause-only c f s h e =
    let (same, rest) = read_same f c.in_ok-fact.fact s _ c.args.text.now h e c.in_ok-fact.ensures.value in
    let line : c.as_slice.result.now ≡ fact_text c.in_ok-fact.fact = c.as_slice.ensures.value ∙ c.in_ok-line.ensures in
    (same, same_after _ _ _ (rw line rest) c.in_ok-after.ensures)
