use Rattle.ld_resolver.specs.Progress.{HasGiven, answers_ahead}
use Rattle.ld_resolver.proofs.running.run.Given as goal

abbrev pub invariant-loop-answers : goal.invariant-loop-answers
invariant-loop-answers l = HasGiven l.program l.goal l.budget l.running l.answers

abbrev pub decreases-loop-answers : goal.decreases-loop-answers
decreases-loop-answers l = answers_ahead l.running
