-- Private.
-- Many positions, as the code looks at them. Nothing here has to be believed.
use Rattle.std.specs.Prelude.{◌≡◌, ◌&&◌, ◌||◌, ◌<◌, ◌⊎◌, if◌then◌else◌, not, ℕ, suc, ℤ, Bool, false, List, [], ◌∷◌, length, map, take}
use Rattle.std.specs.List.{list_any}
use Rattle.transitions.specs.StuckSets.{Feature}
use Rattle.number_turns.specs.Recalled.{spelled}
use Rattle.number_lists.specs.Features.{has_column, is_zero}
use Rattle.number_lists.specs.declared.mapping.Mapping.{Mapping as HeldMapping}
use Rattle.transitions.specs.Transitions.{Transition}
use Rattle.number_lists.specs.declared.position.Position.{Position}
use Rattle.number_lists.specs.FoundLists.{HasList, IsDescendingList, IsLongAtNeed, MayBeMissing, support_of_list}
use Rattle.linear_rows.specs.Members.{In}
use Rattle.level_systems.specs.Found.{without_number}
use Rattle.level_systems.specs.Subsequences.{AreOnce}
use Rattle.number_lists.specs.Found.{IsVoid}
use Rattle.number_lists.specs.declared.large.LeftOut.{LeftOut}
use Rattle.number_lists.specs.declared.large.LeftOut.TheVariants.{Smaller, None as NoneLeft}
use Rattle.number_lists.specs.declared.measure_list.MeasureList.{MeasureList}

-- the code's supports: positions at which a mapping has a number other than 0 with a feature of theirs
abbrev pub has_number : Position → List Feature → List ℤ → Bool
has_number r [] zs = false
has_number r (f ∷ fs) [] = false
has_number r (f ∷ fs) (z ∷ zs) = (not (is_zero z) && has_column f r) || has_number r fs zs

abbrev pub is_held_used : Position → List HeldMapping → Bool
is_held_used r ms = list_any (λ (m : HeldMapping). has_number r (map spelled m.features) m.numbers) ms

abbrev pub held_support_from : ℕ → List Position → List HeldMapping → List ℕ
held_support_from i [] ms = []
held_support_from i (r ∷ rs) ms = if is_held_used r ms then i ∷ held_support_from (suc i) rs ms else held_support_from (suc i) rs ms

-- a smaller list has a shorter support
abbrev pub IsShorterThan : List Position → ℕ → LeftOut → Type 0
IsShorterThan positions n (Smaller l) = length (held_support_from 1 positions l.mappings) < n
IsShorterThan positions n (NoneLeft blown) = Unit {0}

module _ (members : List ℕ) (positions : List Position) (τs : List Transition) (width : ℕ → ℕ) where
  -- a list that descends, of two mappings or more only where no mapping was found
  pub record IsHadList (l : MeasureList) : Type 0 where
    pub list : IsDescendingList members positions τs width l
    pub has : HasList members positions τs (support_of_list members positions τs width l)
    pub single : IsLongAtNeed members positions τs width l

  -- at a set without the number, no list descends, or the search was given up
  abbrev pub IsTried : List ℕ → List (List ℕ) → ℕ → Type 0
  IsTried s blown i = In (without_number i s) blown ⊎ IsVoid members positions τs width (without_number i s)

  abbrev pub IsLeftOut : List ℕ → LeftOut → Type 0
  IsLeftOut s (Smaller l) = IsHadList l
  IsLeftOut s (NoneLeft blown) =
      ((i : ℕ) → In i s → IsTried s blown i) × ((t : List ℕ) → In t blown → MayBeMissing members positions τs t) × AreOnce blown × ((t : List ℕ) → In t blown → (i : ℕ) × (t ≡ without_number i s) × In i s)

  -- each of the first k numbers of a set was left out
  pub record AreTried (s : List ℕ) (k : ℕ) (blown : List (List ℕ)) : Type 0 where
    pub tried : (i : ℕ) → In i (take k s) → IsTried s blown i
    pub tested : (t : List ℕ) → In t blown → (i : ℕ) × In i (take k s) × (t ≡ without_number i s)
    pub given_up : (t : List ℕ) → In t blown → MayBeMissing members positions τs t
    pub once : AreOnce blown
