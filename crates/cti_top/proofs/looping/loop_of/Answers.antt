use Rattle.std.proofs.Common.{inl, inr}
use Rattle.cti_top.specs.Known.{known_of}
use Rattle.cti_top.proofs.AnswerLemmas.{if_ok}
use Rattle.cti_top.proofs.looping.loop_of.Goals as goal

pub returns-in-Ok : goal.returns-in-Ok
returns-in-Ok c =
    let source = c.query_in.new.source in
    if_ok c.looked.result
    (λ a h bytes is. inl (record {
      known = known_of c.args.source;
      is = is;
      names = source.names;
      program = source.program;
      goal = c.in-Ok.goal;
      asked = c.in-Ok.ensures.query;
      looked = h;
    }))
    c.looked.ensures

pub returns-in-Err-Refused : goal.returns-in-Err-Refused
returns-in-Err-Refused c =
    let fault = rw c.in-Err-Refused.field-0-is at c.in-Err-Refused.ensures.refused in
    if_ok c.refused.result (λ a h bytes is. inr (c.in-Err-Refused.kind, c.in-Err-Refused.at, record { known = known_of c.args.source; is = is; refused = fault.0 }, h)) c.refused.ensures
