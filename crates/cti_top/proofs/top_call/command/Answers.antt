use Rattle.std.proofs.Common.{map, subst}
use Rattle.cti_top.specs.Outcome.{IsAnswer}
use Rattle.cti_top.specs.declared.status.Status.{Status}
use Rattle.cti_top.proofs.OutcomeLemmas.{not_file, outcome_of}
use Rattle.cti_top.proofs.top_call.command.Goals as goal

pub returns-in-Ok-write_text-clause-outcome : goal.returns-in-Ok-write_text-clause-outcome
returns-in-Ok-write_text-clause-outcome g c =
    outcome_of (g.F.Files.told c.args.files.now) (map (λ w. w.now) c.args.words.now) _ _ c.in-Ok.answer.status c.in-Ok.answer.text.items c.in-Ok.ensures.answered (rw c.deref.ensures.value at c.in-Ok-write_text.ensures.whole)

pub returns-in-Ok-write_text-clause-file_fault : goal.returns-in-Ok-write_text-clause-file_fault
returns-in-Ok-write_text-clause-file_fault g c e =
    let told = g.F.Files.told c.args.files.now in
    let words = map (λ w. w.now) c.args.words.now in
    let text = c.in-Ok.answer.text.items in
    absurd (not_file told words text (subst (λ (s : Status). IsAnswer told words s text) e c.in-Ok.ensures.answered))

pub returns-in-Ok-clause-outcome : goal.returns-in-Ok-clause-outcome
returns-in-Ok-clause-outcome g c = (c.in-Ok.answer.status, c.in-Ok.answer.text.items, c.in-Ok.ensures.answered, rw c.deref.ensures.value at c.in-Err-write_text.ensures.part)
