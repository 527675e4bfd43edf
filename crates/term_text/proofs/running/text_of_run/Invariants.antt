use Rattle.ld_resolver.specs.Progress.{answers_ahead}
use Rattle.term_text.proofs.RunningLemmas.{HasWritten}
use Rattle.term_text.proofs.running.text_of_run.Given as goal

-- the lines of the answers that were given are written
abbrev pub invariant-loop-text : goal.invariant-loop-text
invariant-loop-text l = HasWritten l.names l.program l.goal l.budget l.running l.text.items

abbrev pub decreases-loop-text : goal.decreases-loop-text
decreases-loop-text l = answers_ahead l.running
