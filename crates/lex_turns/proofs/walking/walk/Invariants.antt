use Rattle.std.proofs.Common.{ℕ, ℤ, Bool, List, length, take}
use Rattle.call_components.specs.Partition.{Partition}
use Rattle.cti_terms.specs.Tree.{Tree}
use Rattle.level_systems.specs.Searched.{IsComponent}
use Rattle.lex_turns.specs.Walked.{IsWalkedTo}
use Rattle.termination_model.specs.grounds.Modes.{chosen_up_to}
use Rattle.lex_turns.proofs.walking.walk.Given as goal

abbrev pub invariant-loop-set : goal.invariant-loop-set
invariant-loop-set l =
    (size : (ℕ → ℕ) → Tree → ℕ) (truth : (ℕ → Bool) → Tree → Bool) (expression : ℕ → Tree → List ℤ) (comps : Partition) (rows : ℕ → List (List ℤ)) (c : ℕ)
    → IsComponent size truth expression l.p comps rows c l.component
    → IsWalkedTo expression l.p comps rows c (take l.set-index (chosen_up_to (length l.component.positions.items) (length l.component.positions.items))) l.walked
