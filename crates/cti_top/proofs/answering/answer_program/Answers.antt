use Rattle.std.proofs.Common.{ℕ, List, sym, subst}
use Rattle.command_words.specs.Requests.{ask_of}
use Rattle.cti_top.specs.Answers.{AnswersAsk, AnswersLoop, AnswersQuery}
use Rattle.cti_top.specs.Known.{known_of}
use Rattle.command_words.specs.declared.request.Request.{Request}
use Rattle.cti_top.proofs.AnswerLemmas.{if_ok}
use Rattle.cti_top.proofs.answering.answer_program.Goals as goal

pub returns-in-Check-clause-answered : goal.returns-in-Check-clause-answered
returns-in-Check-clause-answered g c =
    let told = g.F.Files.told c.args.files.now in
    if_ok c.check_of.result
    (λ a h bytes is. subst (λ (r : Request). AnswersAsk told bytes (ask_of r) a.status a.text.items) (sym c.in-Check.is) (known_of c.args.source, is, h))
    c.check_of.ensures.answered

pub returns-in_ok-run_of-in-Run-clause-answered : goal.returns-in_ok-run_of-in-Run-clause-answered
returns-in_ok-run_of-in-Run-clause-answered g c = λ bytes is.
    let told = g.F.Files.told c.args.files.now in
    let a = c.in_ok-run_of-in-Run.field-0 in
    subst (λ (r : Request). AnswersAsk told bytes (ask_of r) a.status a.text.items) (sym c.in-Run.is)
    (subst (λ (q : List ℕ). AnswersQuery bytes q c.in-Run.steps a.status a.text.items) c.as_bytes.ensures.value (c.in_ok-run_of-in-Run.ensures bytes is))

pub returns-in_ok-loop_of-in-Loop-clause-answered : goal.returns-in_ok-loop_of-in-Loop-clause-answered
returns-in_ok-loop_of-in-Loop-clause-answered g c = λ bytes is.
    let told = g.F.Files.told c.args.files.now in
    let a = c.in_ok-loop_of-in-Loop.field-0 in
    subst (λ (r : Request). AnswersAsk told bytes (ask_of r) a.status a.text.items) (sym c.in-Loop.is)
    (subst (λ (q : List ℕ). AnswersLoop bytes q c.in-Loop.depth a.status a.text.items) c.as_bytes-in-Loop.ensures.value (c.in_ok-loop_of-in-Loop.ensures bytes is))
