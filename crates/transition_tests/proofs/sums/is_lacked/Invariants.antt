use Rattle.number_turns.specs.Recalled.{recalled_of, spelled}
use Rattle.transitions.specs.StuckSets.{Lacks}
use Rattle.transitions.specs.Transitions.{Transition}
use Rattle.transition_tests.proofs.Places.{UpTo}
use Rattle.transition_tests.proofs.sums.is_lacked.Given as goal

abbrev pub invariant-loop-transition : goal.invariant-loop-transition
invariant-loop-transition l = UpTo (λ _ (τ : Transition). Lacks τ (spelled l.feature) → ⊥) (recalled_of l.transitions) l.transition-index
