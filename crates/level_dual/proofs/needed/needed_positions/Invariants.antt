use Rattle.std.proofs.Common.{ℕ, ℤ, Bool, List}
use Rattle.call_components.specs.Partition.{Partition}
use Rattle.cti_terms.specs.Tree.{Tree}
use Rattle.level_systems.specs.Searched.{IsComponent}
use Rattle.level_dual.specs.Needed.{AreNeeded}
use Rattle.level_dual.proofs.needed.needed_positions.Given as goal

abbrev pub invariant-loop-number : goal.invariant-loop-number
invariant-loop-number l =
    (size : (ℕ → ℕ) → Tree → ℕ) (truth : (ℕ → Bool) → Tree → Bool) (expression : ℕ → Tree → List ℤ) (comps : Partition) (rows : ℕ → List (List ℤ)) (c : ℕ)
    → IsComponent size truth expression l.p comps rows c l.component → AreNeeded expression l.p comps rows c l.full l.needed.items
