use Rattle.std.proofs.Common.{inr}
use Rattle.cti_top.specs.Known.{known_of}
use Rattle.cti_top.proofs.AnswerLemmas.{if_ok}
use Rattle.cti_top.proofs.running.run_of.Goals as goal

pub returns-in-Err-Refused : goal.returns-in-Err-Refused
returns-in-Err-Refused c =
    let fault = rw c.in-Err-Refused.field-0-is at c.in-Err-Refused.ensures.refused in
    if_ok c.refused.result (λ a h bytes is. inr (c.in-Err-Refused.kind, c.in-Err-Refused.at, record { known = known_of c.args.source; is = is; refused = fault.0 }, h)) c.refused.ensures
