use Rattle.number_turns.specs.Recalled.{recalled_of, spelled}
use Rattle.number_turns.specs.declared.feature.Feature.{Feature}
use Rattle.transition_tests.specs.Testing.{AreBalanced}
use Rattle.transition_tests.proofs.Places.{UpTo}
use Rattle.transition_tests.proofs.stuck.is_stuck.Given as goal

abbrev pub invariant-loop-feature : goal.invariant-loop-feature
invariant-loop-feature l = UpTo (λ _ (f : Feature). AreBalanced (recalled_of l.transitions) l.groups (spelled f)) l.features l.feature-index
