use Rattle.std.proofs.Common.{ℕ, ℤ, Bool, List, length}
use Rattle.call_components.specs.Partition.{Partition}
use Rattle.cti_terms.specs.Tree.{Tree}
use Rattle.level_systems.specs.Searched.{IsComponent}
use Rattle.level_dual.specs.Needed.{AreNeeded}
use Rattle.level_dual.specs.Walked.{IsWalkedTo}
use Rattle.linear_rows.specs.Step.{columns}
use Rattle.level_dual.proofs.walking.walk_all.Given as goal

abbrev pub invariant-loop-set : goal.invariant-loop-set
invariant-loop-set l =
    (size : (ℕ → ℕ) → Tree → ℕ) (truth : (ℕ → Bool) → Tree → Bool) (expression : ℕ → Tree → List ℤ) (comps : Partition) (rows : ℕ → List (List ℤ)) (c : ℕ)
    → IsComponent size truth expression l.p comps rows c l.component → AreNeeded expression l.p comps rows c (columns 1 (length l.component.positions.items)) l.needed → IsWalkedTo expression l.p comps rows c (length l.component.positions.items) l.set-index l.walked
