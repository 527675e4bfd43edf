use Rattle.std.proofs.Common.{ℕ, List, inr, rules, subst, sym}
use Rattle.std.specs.Prelude.{◌≢◌}
use Rattle.command_words.specs.Requests.{ask_of}
use Rattle.cti_top.specs.Answers.{AnswersProgram}
use Rattle.command_words.specs.declared.request.Request.{Request}
use Rattle.command_words.specs.Words.{session}
use Rattle.cti_top.proofs.AnswerLemmas.{refused_for}
use Rattle.cti_top.specs.Known.{known_of}
use Rattle.cti_top.proofs.answering.answer_text.Goals as goal

pub returns-in-Ok-clause-file_fault : goal.returns-in-Ok-clause-file_fault
returns-in-Ok-clause-file_fault g c e = (known_of c.in-Ok.source, c.in-Ok.ensures.program, c.answer_program.ensures.file_fault e)

pub returns-in_ok-refused-in-Err-Refused-clause-answered : goal.returns-in_ok-refused-in-Err-Refused-clause-answered
returns-in_ok-refused-in-Err-Refused-clause-answered g c =
    let refused = rw c.in-Err-Refused.field-0-is at c.in-Err-Refused.ensures.refused in
    let apart : (name : List ℕ) → ask_of c.args.request ≢ session name = search rules in
    inr (c.in-Err-Refused.kind, c.in-Err-Refused.at, refused_for (ask_of c.args.request) c.args.bytes.now c.in-Err-Refused.kind c.in-Err-Refused.at apart refused, c.in_ok-refused-in-Err-Refused.ensures)

pub returns-in-Session-clause-answered : goal.returns-in-Session-clause-answered
returns-in-Session-clause-answered g c =
    let told = g.F.Files.told c.args.files.now in
    let a = c.in_ok-session_of.field-0 in
    subst (λ (r : Request). AnswersProgram told c.args.bytes.now (ask_of r) a.status a.text.items) (sym c.in-Session.is) c.in_ok-session_of.ensures
