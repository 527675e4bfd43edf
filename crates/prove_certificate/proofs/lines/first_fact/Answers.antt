use Rattle.std.proofs.Common.{◌≡◌, ◌∙◌, sym, Some}
use Rattle.std.proofs.lemmas.Option.{none-some}
use Rattle.certificate.specs.Parse.{after}
use Rattle.certificate.proofs.LineLemmas.{taken_off, fault_only, text_only, same_after}
use Rattle.prove_certificate.proofs.TextLemmas.{read_same, read_some, shorter}
use Rattle.prove_certificate.proofs.lines.first_fact.Goals as goal

pub returns-in_err-fact-clause-only : goal.returns-in_err-fact-clause-only
returns-in_err-fact-clause-only g c f s h e =
    let laws = g.met.F.Line in
    fault_only (λ p. (p.0 ≡ f) × (p.1.now ≡ s)) c.from_residual.result _ _ c.from_residual.ensures c.in_err-fact.ensures.value
    (read_some g.F.Line.shown g.F.Line.fits g.F.Line.reads laws.one_line laws.read_back f s c.args.text.now h e)

pub returns-in_err-after-clause-only : goal.returns-in_err-after-clause-only
returns-in_err-after-clause-only g c f s h e =
    let laws = g.met.F.Line in
    let (same, rest) = read_same g.F.Line.shown g.F.Line.fits g.F.Line.reads laws.one_line laws.read_back f c.in_ok-fact.fact s _ c.args.text.now h e c.in_ok-fact.ensures.value in
    let line : c.as_slice.result.now ≡ g.F.Line.shown c.in_ok-fact.fact = c.as_slice.ensures.value ∙ c.in_ok-line.ensures in
    let found : after c.as_slice.result.now c.args.text.now ≡ Some s = rw line rest in
    text_only (λ p. (p.0 ≡ f) × (p.1.now ≡ s)) c.from_residual-in_err-after.result _ _ c.from_residual-in_err-after.ensures c.in_err-after.ensures
    λ none. none-some _ (sym none ∙ found)

pub returns-clause-value : goal.returns-clause-value
returns-clause-value g c =
    let line : c.as_slice.result.now ≡ g.F.Line.shown c.in_ok-fact.fact = c.as_slice.ensures.value ∙ c.in_ok-line.ensures in
    (c.in_ok-fact.ensures.fits, rw (← line) (taken_off _ _ _ c.in_ok-after.ensures))

pub returns-clause-shorter : goal.returns-clause-shorter
returns-clause-shorter g c =
    let laws = g.met.F.Line in
    let line : c.as_slice.result.now ≡ g.F.Line.shown c.in_ok-fact.fact = c.as_slice.ensures.value ∙ c.in_ok-line.ensures in
    shorter g.F.Line.shown g.F.Line.fits g.F.Line.reads laws.one_line laws.read_back c.in_ok-fact.fact _ c.args.text.now c.in_ok-fact.ensures.fits
    (rw (← line) (taken_off _ _ _ c.in_ok-after.ensures))

pub returns-clause-only : goal.returns-clause-only
returns-clause-only g c f s h e =
    let laws = g.met.F.Line in
    let (same, rest) = read_same g.F.Line.shown g.F.Line.fits g.F.Line.reads laws.one_line laws.read_back f c.in_ok-fact.fact s _ c.args.text.now h e c.in_ok-fact.ensures.value in
    let line : c.as_slice.result.now ≡ g.F.Line.shown c.in_ok-fact.fact = c.as_slice.ensures.value ∙ c.in_ok-line.ensures in
    (same, same_after _ _ _ (rw line rest) c.in_ok-after.ensures)
