use Rattle.std.proofs.Common.{subst}
use Rattle.command_words.specs.Requests.{ask_of}
use Rattle.cti_top.specs.Answers.{AnswersProgram}
use Rattle.cti_top.specs.Answers as answers
use Rattle.cti_top.specs.Outcome.{TellsText}
use Rattle.outside.specs.Told.{Map}
use Rattle.command_words.specs.Words.{Origin}
use Rattle.cti_top.proofs.AnswerLemmas.{if_ok}
use Rattle.cti_top.proofs.KeepLemmas.{keeps_then, loaded}
use Rattle.cti_top.proofs.answering.answer_request.Goals as goal

pub returns-in-Ok-clause-answered : goal.returns-in-Ok-clause-answered
returns-in-Ok-clause-answered g c =
    let told = g.F.Files.told c.args.files.now in
    let ask = ask_of c.args.request in
    let bytes = c.deref.result.now in
    let at = subst (λ (o : Origin). TellsText told o bytes) c.origin.ensures (rw (← c.deref.ensures.value) at c.in-Ok.ensures.text) in
    if_ok c.answer_text.result (λ a h. answers.read bytes at (subst (λ (m : Map). AnswersProgram m bytes ask a.status a.text.items) c.text_of.ensures.stays h)) c.answer_text.ensures.answered

pub returns-in-Ok-clause-kept : goal.returns-in-Ok-clause-kept
returns-in-Ok-clause-kept g c = keeps_then _ _ _ _ _ _ (loaded _ _ _ _ c.text_of.ensures.stays c.text_of.ensures.later) c.answer_text.ensures.kept
