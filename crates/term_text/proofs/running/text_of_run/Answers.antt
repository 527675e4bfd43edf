use Rattle.std.proofs.Common.{[]}
use Rattle.ld_resolver.proofs.RunningLaws.{is_running}
use Rattle.term_text.proofs.RunningLemmas.{one_more, whole}
use Rattle.term_text.proofs.running.text_of_run.Goals as goal

pub next-requires : goal.next-requires
next-requires c =
    let l = c.loop-text in
    is_running c.args.program.now c.args.goal.now c.args.budget l.running l.invariant.0 l.invariant.1

pub loop-text-init : goal.loop-text-init
loop-text-init c = ([], c.in_ok-running.ensures, c.new-text.ensures.items)

pub loop-text-preserved : goal.loop-text-preserved
loop-text-preserved c =
    let l = c.loop-text in
    (one_more c.args.names.now c.args.program.now c.args.goal.now c.args.budget l.running c.next.new.self _
    (c.in_ok-answer.ensures _ _ _) l.text.items _ l.invariant c.in-Answer.answer c.in-Answer.is c.in_ok-push_answer-in-Answer.ensures).0

pub loop-text-preserved-in_ok-push_answer-in-Answer : goal.loop-text-preserved-in_ok-push_answer-in-Answer
loop-text-preserved-in_ok-push_answer-in-Answer c =
    let l = c.loop-text in
    (one_more c.args.names.now c.args.program.now c.args.goal.now c.args.budget l.running c.next.new.self _
    (c.in_ok-answer.ensures _ _ _) l.text.items _ l.invariant c.in-Answer.answer c.in-Answer.is c.in_ok-push_answer-in-Answer.ensures).0

pub loop-text-smaller : goal.loop-text-smaller
loop-text-smaller c =
    let l = c.loop-text in
    (one_more c.args.names.now c.args.program.now c.args.goal.now c.args.budget l.running c.next.new.self _
    (c.in_ok-answer.ensures _ _ _) l.text.items _ l.invariant c.in-Answer.answer c.in-Answer.is c.in_ok-push_answer-in-Answer.ensures).1

pub loop-text-smaller-in_ok-push_answer-in-Answer : goal.loop-text-smaller-in_ok-push_answer-in-Answer
loop-text-smaller-in_ok-push_answer-in-Answer c =
    let l = c.loop-text in
    (one_more c.args.names.now c.args.program.now c.args.goal.now c.args.budget l.running c.next.new.self _
    (c.in_ok-answer.ensures _ _ _) l.text.items _ l.invariant c.in-Answer.answer c.in-Answer.is c.in_ok-push_answer-in-Answer.ensures).1

pub returns-in-End : goal.returns-in-End
returns-in-End c =
    let l = c.loop-text in
    whole c.args.names.now c.args.program.now c.args.goal.now c.args.budget l.running c.next.new.self _
    (c.in_ok-answer.ensures _ _ _) l.text.items _ l.invariant c.in-End.totals c.in-End.is c.in_ok-push_ran-in-End.ensures
