-- Private.
-- Components of many positions, as the code looks at them. Nothing here has to be believed.
use Rattle.std.specs.Prelude.{◌≡◌, ◌<◌, ◌⊎◌, ℕ, ℤ, List, length, take}
use Rattle.cti_terms.specs.Listing.{Listing}
use Rattle.cti_terms.specs.Tree.{Tree}
use Rattle.call_components.specs.Partition.{Partition}
use Rattle.linear_rows.specs.Members.{In}
use Rattle.termination_model.specs.mappings.ComponentViews.{positions_in}
use Rattle.termination_model.specs.mappings.OwnCalls.{Position}
use Rattle.level_systems.specs.Found.{without_number}
use Rattle.level_systems.specs.Subsequences.{AreOnce}
use Rattle.lex_turns.specs.Found.{IsVoid}
use Rattle.lex_turns.specs.FoundLists.{HasList, IsDescendingList, IsLongAtNeed, MayBeMissing, support_of_list}
use Rattle.lex_turns.specs.declared.large.LeftOut.{LeftOut}
use Rattle.lex_turns.specs.declared.large.LeftOut.TheVariants.{Smaller, None as NoneLeft}
use Rattle.lex_turns.specs.declared.measure_list.MeasureList.{MeasureList}

-- a smaller list has a shorter support
abbrev pub IsShorterThan : List Position → ℕ → LeftOut → Type 0
IsShorterThan positions n (Smaller l) = length (support_of_list positions l) < n
IsShorterThan positions n (NoneLeft blown) = Unit {0}

module _ (expression : ℕ → Tree → List ℤ) (p : Listing) (comps : Partition) (rows : ℕ → List (List ℤ)) (c : ℕ) where
  -- a list of the component that descends, of two mappings or more only where no mapping was found
  pub record IsHadList (l : MeasureList) : Type 0 where
    pub list : IsDescendingList expression p comps rows c l
    pub has : HasList expression p comps rows c (support_of_list (positions_in p comps c) l)
    pub single : IsLongAtNeed expression p comps rows c l

  -- at a set without the number, no list descends, or the search was given up
  abbrev pub IsTried : List ℕ → List (List ℕ) → ℕ → Type 0
  IsTried s blown i = In (without_number i s) blown ⊎ IsVoid expression p comps rows c (without_number i s)

  abbrev pub IsLeftOut : List ℕ → LeftOut → Type 0
  IsLeftOut s (Smaller l) = IsHadList l
  IsLeftOut s (NoneLeft blown) =
      ((i : ℕ) → In i s → IsTried s blown i) × ((t : List ℕ) → In t blown → MayBeMissing expression p comps rows c t) × AreOnce blown × ((t : List ℕ) → In t blown → (i : ℕ) × (t ≡ without_number i s) × In i s)

  -- each of the first k numbers of a set was left out
  pub record AreTried (s : List ℕ) (k : ℕ) (blown : List (List ℕ)) : Type 0 where
    pub tried : (i : ℕ) → In i (take k s) → IsTried s blown i
    pub tested : (t : List ℕ) → In t blown → (i : ℕ) × In i (take k s) × (t ≡ without_number i s)
    pub given_up : (t : List ℕ) → In t blown → MayBeMissing expression p comps rows c t
    pub once : AreOnce blown
