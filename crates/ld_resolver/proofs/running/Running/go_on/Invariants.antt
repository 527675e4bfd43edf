use Rattle.std.specs.Prelude.{◌≡◌, ◌≤◌, ℕ, true, List}
use Rattle.cti_terms.specs.declared.derivation.Goal.{Goal}
use Rattle.cti_terms.specs.Listing.{Listing}
use Rattle.ld_resolver.specs.declared.answer.Answer.{Answer}
use Rattle.ld_resolver.specs.Progress.{HasGiven, answers_ahead}
use Rattle.ld_resolver.proofs.running.Running.go_on.Given as goal

abbrev pub invariant-loop-progress : goal.invariant-loop-progress
invariant-loop-progress l = record {
  begun : l.self.has_begun ≡ true;
  stays : (p : Listing) (g : Goal) (n : ℕ) (given : List Answer) → HasGiven p g n l.fn.self given → HasGiven p g n l.self given;
  fewer : answers_ahead l.self ≤ answers_ahead l.fn.self;
}

abbrev pub decreases-loop-progress : goal.decreases-loop-progress
decreases-loop-progress l = answers_ahead l.self
