use Rattle.std.proofs.Common.{ℕ, ℤ, Bool, List, length, map}
use Rattle.call_components.specs.Partition.{Partition}
use Rattle.cti_terms.specs.Tree.{Tree}
use Rattle.level_systems.specs.Held.{spelled}
use Rattle.level_systems.specs.Searched.{IsComponent}
use Rattle.lex_turns.specs.FoundLists.{support_of_list}
use Rattle.lex_turns.specs.Large.{IsHadList}
use Rattle.lex_turns.proofs.large.find_large.Given as goal

abbrev pub invariant-loop-list : goal.invariant-loop-list
invariant-loop-list l =
    (size : (ℕ → ℕ) → Tree → ℕ) (truth : (ℕ → Bool) → Tree → Bool) (expression : ℕ → Tree → List ℤ) (comps : Partition) (rows : ℕ → List (List ℤ)) (c : ℕ)
    → IsComponent size truth expression l.p comps rows c l.component → IsHadList expression l.p comps rows c l.fn.list → IsHadList expression l.p comps rows c l.list

abbrev pub decreases-loop-list : goal.decreases-loop-list
decreases-loop-list l = length (support_of_list (map spelled l.component.positions.items) l.list)
