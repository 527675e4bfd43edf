use Rattle.ld_resolver.specs.declared.running.Found.TheVariants.{Answer}
use Rattle.ld_resolver.specs.Progress.{GoesOn}
use Rattle.ld_resolver.proofs.ProgressLaws.{stopped_is, finished_is, overflow_is}
use Rattle.ld_resolver.proofs.RunningLaws.{is_running}
use Rattle.ld_resolver.proofs.running.run.Goals.{In-Answer}
use Rattle.ld_resolver.proofs.running.run.Goals as goal

-- one more answer is found
goes_on : (c : In-Answer) → GoesOn c.args.program.now c.args.goal.now c.args.budget c.loop-answers.running c.loop-answers.answers (Answer c.in-Answer.answer) c.next.new.self
goes_on c = rw c.in-Answer.is at (c.in_ok-answer.ensures c.args.program.now c.args.goal.now c.args.budget c.loop-answers.answers c.loop-answers.invariant)

pub next-requires : goal.next-requires
next-requires c =
    let l = c.loop-answers in
    is_running c.args.program.now c.args.goal.now c.args.budget l.running l.answers l.invariant

pub loop-answers-preserved : goal.loop-answers-preserved
loop-answers-preserved c = rw c.in_ok-push-in-Answer.ensures (goes_on (goal.at.loop-answers-preserved c).In-Answer).0

pub loop-answers-smaller : goal.loop-answers-smaller
loop-answers-smaller c = (goes_on (goal.at.loop-answers-smaller c).In-Answer).1

pub returns-in-End : goal.returns-in-End
returns-in-End c =
    let p = c.args.program.now in
    let g = c.args.goal.now in
    let n = c.args.budget in
    let ended = rw c.in-End.is at (c.in_ok-answer.ensures p g n c.loop-answers.answers c.loop-answers.invariant) in
    record {
      answers = ended.told_all;
      steps = ended.counted;
      longest = ended.most_of_all;
      stopped = stopped_is p g n _ ended.ended;
      finished = finished_is p g n _ ended.ended;
      overflow = overflow_is p g n _ ended.ended;
    }
