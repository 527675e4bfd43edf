-- Private.
-- Components of many positions, as the code looks at them. Nothing here has to be believed.
use Rattle.std.specs.Prelude.{◌≡◌, ◌<◌, ◌⊎◌, nat_lt, ℕ, ℤ, Bool, List, length, take}
use Rattle.cti_terms.specs.Listing.{Listing}
use Rattle.cti_terms.specs.Tree.{Tree}
use Rattle.call_components.specs.Partition.{Partition}
use Rattle.linear_rows.specs.Members.{In}
use Rattle.termination_model.specs.mappings.Coefficients.{coefficient}
use Rattle.termination_model.specs.mappings.ComponentViews.{HasSupportIn, positions_in}
use Rattle.termination_model.specs.grounds.Minimal.{IsExcluded}
use Rattle.termination_model.specs.mappings.OwnCalls.{Position}
use Rattle.level_systems.specs.Found.{IsBlownSet, without_number}
use Rattle.level_systems.specs.Mappings.{mapping_with, support_of}
use Rattle.level_systems.specs.Searched.{IsDecreasing}
use Rattle.level_systems.specs.Subsequences.{AreOnce}
use Rattle.level_dual.specs.declared.large.LeftOut.{LeftOut}
use Rattle.level_dual.specs.declared.large.LeftOut.TheVariants.{Smaller, None as NoneLeft}
use Rattle.level_systems.specs.declared.mapping.Mapping.{Mapping}
use Rattle.level_systems.specs.declared.measure.Measure.{Measure}

abbrev pub has_coefficient : List Measure → Position → Bool
has_coefficient ms x = nat_lt 0 (coefficient ((mapping_with ms).coefficients x.0) x.1)

-- a smaller mapping has a shorter support
abbrev pub IsShorterThan : List Position → ℕ → LeftOut → Type 0
IsShorterThan positions n (Smaller m) = length (support_of positions m) < n
IsShorterThan positions n (NoneLeft blown) = Unit {0}

module _ (expression : ℕ → Tree → List ℤ) (p : Listing) (comps : Partition) (rows : ℕ → List (List ℤ)) (c : ℕ) where
  -- a mapping of the component that decreases
  abbrev pub IsHadMapping : Mapping → Type 0
  IsHadMapping m = IsDecreasing expression p comps rows c m × HasSupportIn expression p comps rows c (support_of (positions_in p comps c) m)

  abbrev pub IsLeftOut : List ℕ → LeftOut → Type 0
  IsLeftOut s (Smaller m) = IsHadMapping m
  IsLeftOut s (NoneLeft blown) =
      ((i : ℕ) → In i s → In (without_number i s) blown ⊎ IsExcluded (HasSupportIn expression p comps rows c) (without_number i s)) × ((t : List ℕ) → In t blown → IsBlownSet expression p comps rows c t) × AreOnce blown
      × ((t : List ℕ) → In t blown → (i : ℕ) × (t ≡ without_number i s) × In i s)

  -- each of the first k numbers of a set was left out
  pub record AreTried (s : List ℕ) (k : ℕ) (blown : List (List ℕ)) : Type 0 where
    pub tried : (i : ℕ) → In i (take k s) → In (without_number i s) blown ⊎ IsExcluded (HasSupportIn expression p comps rows c) (without_number i s)
    pub tested : (t : List ℕ) → In t blown → (i : ℕ) × In i (take k s) × (t ≡ without_number i s)
    pub given_up : (t : List ℕ) → In t blown → IsBlownSet expression p comps rows c t
    pub once : AreOnce blown
