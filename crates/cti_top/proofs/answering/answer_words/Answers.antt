use Rattle.std.proofs.Common.{map}
use Rattle.command_words.specs.Requests.{ask_of}
use Rattle.cti_top.proofs.AnswerLemmas.{if_ok}
use Rattle.cti_top.proofs.OutcomeLemmas.{request_answered}
use Rattle.cti_top.proofs.answering.answer_words.Goals as goal

pub returns-in-Ok-clause-answered : goal.returns-in-Ok-clause-answered
returns-in-Ok-clause-answered g c =
    let told = g.F.Files.told c.args.files.now in
    let words = map (λ w. w.now) c.args.words.now in
    if_ok c.answer_request.result (λ a h. request_answered told words (ask_of c.in-Ok.request) a.status a.text.items c.in-Ok.ensures.asked h) c.answer_request.ensures.answered
