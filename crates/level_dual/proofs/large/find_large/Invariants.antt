use Rattle.std.proofs.Common.{ℕ, ℤ, Bool, List, length, map}
use Rattle.call_components.specs.Partition.{Partition}
use Rattle.cti_terms.specs.Tree.{Tree}
use Rattle.level_systems.specs.Held.{spelled}
use Rattle.level_dual.specs.Large.{IsHadMapping}
use Rattle.level_systems.specs.Mappings.{support_of}
use Rattle.level_systems.specs.Searched.{IsComponent}
use Rattle.level_dual.proofs.large.find_large.Given as goal

abbrev pub invariant-loop-mapping : goal.invariant-loop-mapping
invariant-loop-mapping l =
    (size : (ℕ → ℕ) → Tree → ℕ) (truth : (ℕ → Bool) → Tree → Bool) (expression : ℕ → Tree → List ℤ) (comps : Partition) (rows : ℕ → List (List ℤ)) (c : ℕ)
    → IsComponent size truth expression l.p comps rows c l.component → IsHadMapping expression l.p comps rows c l.fn.mapping → IsHadMapping expression l.p comps rows c l.mapping

abbrev pub decreases-loop-mapping : goal.decreases-loop-mapping
decreases-loop-mapping l = length (support_of (map spelled l.component.positions.items) l.mapping)
