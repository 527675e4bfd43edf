-- Private.
-- The parts of a certificate that the mappings of components give.
--
-- Nothing here has to be believed.
use Rattle.std.specs.Prelude.{◌≡◌, ◌<◌, ◌⊎◌, ◌==◌, ◌&&◌, ℕ, suc, pos, if◌then◌else◌, List, [], ◌∷◌, length, map, slice_get, Option, None, Some, option_map, unwrap_or}
use Rattle.std.specs.List.{AllByRecursion}
use Rattle.call_components.specs.Partition.{Partition}
use Rattle.cert_assembly.specs.Parted.{part_or_zero, zero_part}
use Rattle.cert_structure.specs.Shape.{arity_in, head_of, body_of, is_own_call, is_recursive}
use Rattle.cti_terms.specs.Listing.{Listing}
use Rattle.cti_terms.specs.declared.atom_list.Atom.{Atom}
use Rattle.level_systems.specs.Mappings.{level_in}
use Rattle.level_systems.specs.declared.fall.Fall.{Fall}
use Rattle.level_systems.specs.declared.found.Found.{Found}
use Rattle.level_systems.specs.declared.mapping.Mapping.{Mapping}
use Rattle.linear_rows.specs.Step.{columns}
use Rattle.linear_rows.specs.declared.multipliers.Multipliers.{Multipliers}
use Rattle.number_tests.specs.declared.level_part.LevelPart.{LevelPart}
use Rattle.number_tests.specs.declared.refutation.Refutation.{Refutation}
use Rattle.cert_assembly.specs.Leading.{led_by}

-- the multipliers of a call, if a mapping has them
abbrev pub fall_in : List Fall → ℕ → ℕ → Option Multipliers
fall_in [] k j = None
fall_in (f ∷ fs) k j = if (f.clause == k) && (f.call == j) then Some f.by else fall_in fs k j

-- the falls before a place are of calls before this one
abbrev pub IsPassed : List Fall → ℕ → ℕ → ℕ → Type 0
IsPassed falls n k j = (x : ℕ) (f : Fall) → x < n → slice_get falls x ≡ Some f → (f.clause < k) ⊎ ((f.clause ≡ k) × (f.call < j))

abbrev pub ArePassed : List Mapping → ℕ → ℕ → ℕ → Type 0
ArePassed ms n k j = AllByRecursion (λ (m : Mapping). IsPassed m.falls n k j) ms

-- the fall at a place is that of this call
abbrev pub IsFallAt : List Fall → ℕ → ℕ → ℕ → Type 0
IsFallAt falls n k j = (f : Fall) → slice_get falls n ≡ Some f → (f.clause ≡ k) × (f.call ≡ j)

abbrev pub by_or_none : Option Multipliers → Multipliers
by_or_none None = record { scale = pos 0; list = [] }
by_or_none (Some by) = by

module _ (found : List Found) where
  -- the mappings that are found of a component
  abbrev pub mappings_of_component : Option ℕ → List Mapping
  mappings_of_component None = []
  mappings_of_component (Some c) = unwrap_or (option_map (λ (f : Found). f.mappings) (slice_get found c)) []

  -- the refutation of a component
  abbrev pub refutation_of : Option ℕ → Option Refutation
  refutation_of None = None
  refutation_of (Some c) = unwrap_or (option_map (λ (f : Found). f.refutation) (slice_get found c)) None

  -- the supports of a component that were given up
  abbrev pub given_up : ℕ → List (List ℕ)
  given_up c = unwrap_or (option_map (λ (f : Found). f.blown) (slice_get found c)) []

module _ (comps : Partition) (found : List Found) where
  -- the mappings of a predicate's component
  abbrev pub mappings_at : ℕ → List Mapping
  mappings_at q = mappings_of_component found (slice_get comps.of q)

module _ (p : Listing) (comps : Partition) (found : List Found) where
  -- the parts of a predicate: one of zeros, where its component is not recursive
  abbrev pub levels_at : ℕ → List LevelPart
  levels_at q =
      if is_recursive comps q then map (λ (m : Mapping). part_or_zero (arity_in p q) (level_in m.measures q)) (mappings_at comps found q) else zero_part (arity_in p q) ∷ []

  -- the multipliers of a call of a clause, for each mapping; clauses and calls are counted from 0 here
  abbrev pub falls_at : ℕ → ℕ → Option Atom → List Multipliers
  falls_at k j b =
      if is_own_call comps (head_of p k) b then map (λ (m : Mapping). by_or_none (fall_in m.falls (suc k) (suc j))) (mappings_at comps found (head_of p k)) else []

  -- those of the calls of a body, the first of which has the number j
  abbrev pub falls_from : ℕ → ℕ → List Atom → List (List Multipliers)
  falls_from k j [] = []
  falls_from k j (b ∷ bs) = falls_at k j (Some b) ∷ falls_from k (suc j) bs

  -- the lists of all predicates, of all clauses
  abbrev pub level_list : List (List LevelPart)
  level_list = map levels_at (columns 0 (length p.preds))

  abbrev pub fall_list : List (List (List Multipliers))
  fall_list = map (λ k. falls_from k 0 (body_of p k)) (columns 0 (length p.clauses))

  abbrev pub refutation_list : List (Option Refutation)
  refutation_list = map (λ q. refutation_of found (led_by comps q)) (columns 0 (length p.preds))
