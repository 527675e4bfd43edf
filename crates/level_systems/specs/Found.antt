-- To believe, for the modes.
-- What is found of a component's mappings: all minimal supports, or a refutation, or what was given up.
--
-- To believe: all of this file but `nothing`.
use Rattle.std.specs.Prelude.{◌≡◌, ◌≢◌, ◌↔◌, ◌<◌, ◌≤◌, ◌⊎◌, not, nat_eq, ℕ, suc, ℤ, true, false, IsTrue, List, [], map, filter, length, Option, None, Some, ◌≤ℤ◌, pos, All}
use Rattle.std.specs.List.{AllByRecursion}
use Rattle.cti_terms.specs.Listing.{Listing}
use Rattle.cti_terms.specs.Tree.{Tree}
use Rattle.call_components.specs.Partition.{Partition}
use Rattle.linear_rows.specs.Members.{In}
use Rattle.linear_rows.specs.Step.{columns}
use Rattle.call_components.specs.Partition.{IsIn}
use Rattle.linear_rows.specs.declared.point.Point.{Point}
use Rattle.number_tests.specs.Refuting.{PointHolds, SumsRefute, call_of, clause_of}
use Rattle.number_tests.specs.declared.pair_point.PairPoint.{PairPoint}
use Rattle.termination_model.specs.mappings.BlownSupports.{IsBlownAt}
use Rattle.termination_model.specs.mappings.Excluding.{IsZeroOutside}
use Rattle.termination_model.specs.mappings.Refutation.{Decreases}
use Rattle.level_systems.specs.declared.mapping.Mapping.{Mapping}
use Rattle.number_tests.specs.Shape.{IsPairOf}
pub use Rattle.number_tests.specs.Shape.{PairsAscend}
use Rattle.number_tests.specs.declared.refutation.Refutation.{Refutation}
use Rattle.termination_model.specs.mappings.ComponentViews.{HasSupportIn, component_view, members_in, positions_in}
use Rattle.termination_model.specs.grounds.Minimal.{IsAbove, IsExcluded, IsMinimal, IsSet}
use Rattle.termination_model.specs.grounds.Modes.{chosen_up_to}
use Rattle.termination_model.specs.mappings.Ready.{arity_in}
use Rattle.termination_model.specs.mappings.Supports.{picked_from}
use Rattle.level_systems.specs.Mappings.{IsMappingOf, mapping_with, support_of}
use Rattle.level_systems.specs.Subsequences.{AreOnce, IsSubsequence}
use Rattle.level_systems.specs.declared.found.Found.{Found}

-- no mapping, no refutation, and no set that was given up
abbrev pub nothing : Found
nothing = record { mappings = []; refutation = None; blown = []; large = false }

-- the set without a number
abbrev pub without_number : ℕ → List ℕ → List ℕ
without_number i s = filter (λ x. not (nat_eq i x)) s

-- natural numbers t and w
abbrev pub IsNaturalPoint : Point → Type 0
IsNaturalPoint x = (pos 0 ≤ℤ x.t) × All (λ z. pos 0 ≤ℤ z) x.w

abbrev pub HasSecondPoint : ℤ → Option Point → Type 0
HasSecondPoint t None = t ≢ pos 0
HasSecondPoint t (Some y) = (t ≡ pos 0) × IsNaturalPoint y × (y.t ≢ pos 0)

module _ (expression : ℕ → Tree → List ℤ) (p : Listing) (comps : Partition) (rows : ℕ → List (List ℤ)) (c : ℕ) where
  -- how many positions there are, and the set of all of them
  abbrev pub count : ℕ
  count = length (positions_in p comps c)

  abbrev pub full : List ℕ
  full = columns 1 count

  abbrev pub supports : Found → List (List ℕ)
  supports f = map (support_of (positions_in p comps c)) f.mappings

  -- the system of a set of positions is blown
  abbrev pub IsBlownSet : List ℕ → Type 0
  IsBlownSet s = IsBlownAt expression (component_view expression p comps rows c) (arity_in p) (picked_from 1 (positions_in p comps c) s)

  -- a pair of the component with natural points, and a second one exactly where the first stands for a direction
  pub record IsOwnPair (x : PairPoint) : Type 0 where
    pub head : IsIn comps c (clause_of p x).head.pred.0
    pub call : IsIn comps c (call_of p x).pred.0
    pub natural : IsNaturalPoint x.point
    pub second : HasSecondPoint x.point.t x.at

  -- a refutation that the check of a certificate accepts
  pub record IsRefutationOf (r : Refutation) : Type 0 where
    pub pairs : AllByRecursion (IsPairOf p) r.points
    pub ascend : PairsAscend (0, 0) r.points
    pub own : AllByRecursion IsOwnPair r.points
    pub sums : SumsRefute expression p (members_in comps c) r.points
    pub points : AllByRecursion (PointHolds expression p rows) r.points

  -- up to 12 positions: the minimal supports, in order, and each decreasing mapping has one of them within its support,
  -- unless that is above one that was given up
  pub record IsSmall (f : Found) : Type 0 where
    pub minimal : (s : List ℕ) → In s (supports f) → IsMinimal (HasSupportIn expression p comps rows c) s
    pub within : (s : List ℕ) → HasSupportIn expression p comps rows c s → IsAbove (supports f) s ⊎ IsAbove f.blown s
    pub order : IsSubsequence (supports f) (chosen_up_to count count)

  -- more: one mapping at most, none of whose positions can be left out, or a refutation, or all positions were given up
  pub record IsLarge (f : Found) : Type 0 where
    pub few : length f.mappings ≤ 1
    pub decreases : (s : List ℕ) → In s (supports f) → HasSupportIn expression p comps rows c s
    pub needed : (s : List ℕ) → In s (supports f) → (i : ℕ) → In i s → In (without_number i s) f.blown ⊎ IsExcluded (HasSupportIn expression p comps rows c) (without_number i s)
    -- where there is a mapping, each set that was given up is its support without one of its positions
    pub left_out : (s : List ℕ) → In s (supports f) → (t : List ℕ) → In t f.blown → (i : ℕ) × In i s × (t ≡ without_number i s)
    pub decided : (1 ≤ length f.mappings) ⊎ (f.refutation ≢ None) ⊎ In full f.blown

  pub record IsFound (f : Found) : Type 0 where
    pub large : IsTrue f.large ↔ (12 < count)
    -- each mapping has a part for each member, and falls that the check of a certificate accepts
    pub mappings : AllByRecursion (IsMappingOf expression p rows comps c) f.mappings
    pub at : AllByRecursion (λ (m : Mapping). IsZeroOutside (positions_in p comps c) (mapping_with m.measures)) f.mappings
    pub falling : AllByRecursion (λ (m : Mapping). Decreases expression (component_view expression p comps rows c) (mapping_with m.measures)) f.mappings
    pub small : f.large ≡ false → IsSmall f
    pub more : f.large ≡ true → IsLarge f
    -- a refutation exactly where no mapping decreases and the set of all positions was not given up
    pub refuted : (f.refutation ≢ None) ↔ (((s : List ℕ) → HasSupportIn expression p comps rows c s → ⊥) × (In full f.blown → ⊥))
    pub shown : (r : Refutation) → f.refutation ≡ Some r → IsRefutationOf r
    -- what was given up are sets of positions, which are blown and above no support that was found, and each stands
    -- once
    pub sets : (s : List ℕ) → In s f.blown → IsSet 1 (suc count) s
    pub given_up : (s : List ℕ) → In s f.blown → IsBlownSet s
    pub once : AreOnce f.blown
    pub apart : (s : List ℕ) → In s f.blown → IsAbove (supports f) s → ⊥
