use Rattle.std.proofs.Common.{◌∙◌, ap, sym, Err, inl, inr}
use Rattle.cti_top.proofs.AnswerLemmas.{if_ok}
use Rattle.cti_top.proofs.CheckLemmas.{line_or_memory}
use Rattle.cti_top.proofs.checking.answer_to.Goals as goal

pub returns-in-Ok : goal.returns-in-Ok
returns-in-Ok c = if_ok c.checked.result (λ a h. inl (record { certificate = c.in-Ok.certificate; is = c.in-Ok.ensures.value; verdict = h })) c.checked.ensures

pub returns-in-Err-NotAFact : goal.returns-in-Err-NotAFact
returns-in-Err-NotAFact c =
    let r = c.in-Err-NotAFact in
    let first = (r.ensures.line r.line (ap Err r.field-0-is)).1 in
    if_ok c.not_a_fact.result
    (λ a h. inr (r.line, record { short = c.requires.short; first = first; none = λ d is. line_or_memory r.line (sym r.field-0-is ∙ r.ensures.only d is) }, record { status = h.0; printed = h.1 }))
    c.not_a_fact.ensures
