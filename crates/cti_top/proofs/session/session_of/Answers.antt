use Rattle.std.proofs.Common.{inl, inr, refl}
use Rattle.cti_top.proofs.AnswerLemmas.{if_ok}
use Rattle.cti_top.proofs.session.session_of.Goals as goal

pub returns-in-Ok : goal.returns-in-Ok
returns-in-Ok c = inl (refl, c.in-Ok.ensures.lines)

pub returns-in-Err-Refused : goal.returns-in-Err-Refused
returns-in-Err-Refused c =
    let fault = rw c.in-Err-Refused.field-0-is at c.in-Err-Refused.ensures.refused in
    if_ok c.refused.result (λ a h. inr (c.in-Err-Refused.kind, c.in-Err-Refused.at, fault, h)) c.refused.ensures
