-- To believe, for the modes by lists of mappings.
-- What is found of a component's lists: one for each minimal support of a list that descends, or a stuck set, or what
-- was given up.
--
-- The support of a list is the set of positions at which some mapping of it has a positive coefficient. A mapping that
-- decreases is a list of one.
--
-- To believe: all of this file, over `ListDescends` of `termination_model` and Descending.antt.
use Rattle.std.specs.Prelude.{◌≡◌, ◌≢◌, ◌↔◌, ◌⊎◌, ◌-◌, ◌<◌, ◌≤◌, nat_lt, ℕ, suc, ℤ, Bool, true, false, IsTrue, if◌then◌else◌, List, [], ◌∷◌, map, take, length, slice_get, None, Some}
use Rattle.std.specs.List.{AllByRecursion, list_any}
use Rattle.call_components.specs.Partition.{Partition}
use Rattle.cti_terms.specs.Listing.{Listing}
use Rattle.cti_terms.specs.Tree.{Tree}
use Rattle.cti_terms.specs.declared.clauses.Clause.{Clause}
use Rattle.linear_rows.specs.Members.{In}
use Rattle.linear_rows.specs.Rows.{AreEmpty}
use Rattle.number_tests.specs.declared.pair_point.PairPoint.{PairPoint}
use Rattle.number_tests.specs.declared.refutation.Refutation.{Refutation}
use Rattle.termination_model.specs.mappings.Coefficients.{coefficient}
use Rattle.termination_model.specs.claims.Claims.{Mapping, SomeOf}
use Rattle.termination_model.specs.mappings.ComponentViews.{component_view, members_in, positions_in, HasSupportIn}
use Rattle.termination_model.specs.mappings.Excluding.{IsZeroOutside}
use Rattle.termination_model.specs.grounds.Minimal.{IsAbove, IsExcluded, IsMinimal, IsSet}
use Rattle.termination_model.specs.grounds.Modes.{chosen_up_to, is_part}
use Rattle.termination_model.specs.mappings.OwnCalls.{Position}
use Rattle.termination_model.specs.mappings.Ready.{arity_in}
use Rattle.termination_model.specs.lists.Stuck.{ListDescends}
use Rattle.termination_model.specs.sizes.ShortSystems.{short_system}
use Rattle.level_systems.specs.Found.{IsBlownSet, IsRefutationOf, count, full, without_number}
use Rattle.level_systems.specs.Mappings.{HasMeasures, mapping_with}
use Rattle.level_systems.specs.Pairs.{pairs_of}
use Rattle.level_systems.specs.Subsequences.{AreOnce, IsSubsequence}
use Rattle.lex_turns.specs.Descending.{HasPlace, IsGivenUp, positions_at}
use Rattle.lex_turns.specs.declared.call_drops.CallDrops.{CallDrops}
use Rattle.lex_turns.specs.declared.found_lists.FoundLists.{FoundLists}
use Rattle.lex_turns.specs.declared.measure_list.MeasureList.{MeasureList}

-- some mapping of a list has a positive coefficient at the position
abbrev pub is_used : Position → List Mapping → Bool
is_used r ls = list_any (λ (l : Mapping). nat_lt 0 (coefficient (l.coefficients r.0) r.1)) ls

-- the numbers of the positions that a list uses, the first of these having the number i
abbrev pub list_support_from : ℕ → List Position → List Mapping → List ℕ
list_support_from i [] ls = []
list_support_from i (r ∷ rs) ls = if is_used r ls then i ∷ list_support_from (suc i) rs ls else list_support_from (suc i) rs ls

-- the mappings of a list that was found
abbrev pub mappings_of : MeasureList → List Mapping
mappings_of l = map mapping_with l.measures

abbrev pub support_of_list : List Position → MeasureList → List ℕ
support_of_list positions l = list_support_from 1 positions (mappings_of l)

-- a list of two mappings or more
abbrev pub IsLong : MeasureList → Type 0
IsLong l = 2 ≤ length l.measures

module _ (expression : ℕ → Tree → List ℤ) (p : Listing) (comps : Partition) (rows : ℕ → List (List ℤ)) (c : ℕ) where
  -- a list of mappings of the component that descends has exactly this support
  pub record HasList (s : List ℕ) : Type 0 where
    pub list : List Mapping
    pub some : 1 ≤ length list
    pub at : AllByRecursion (IsZeroOutside (positions_in p comps c)) list
    pub descends : ListDescends expression (component_view expression p comps rows c) list
    pub is : list_support_from 1 (positions_in p comps c) list ≡ s

  -- the size rows of the atoms before the call of a pair hold somewhere
  abbrev pub IsReached : ℕ × ℕ → Type 0
  IsReached pair = (k : Clause) → slice_get p.clauses (pair.0 - 1) ≡ Some k → AreEmpty (suc k.vars) (short_system expression rows k.vars (take (pair.1 - 1) k.body)) → ⊥

  -- in a list of two or more each mapping is the place of some pair that is reached
  abbrev pub AreNeeded : MeasureList → Type 0
  AreNeeded l = IsLong l → (i : ℕ) → i < length l.measures
      → SomeOf (λ (d : CallDrops). (length d.by ≡ suc i) × IsReached (d.clause, d.call)) l.drops

  -- a list that descends: parts for each member in each of its mappings, and the place of each pair, in order
  pub record IsDescendingList (l : MeasureList) : Type 0 where
    pub some : 1 ≤ length l.measures
    pub measures : AllByRecursion (HasMeasures p (members_in comps c)) l.measures
    pub pairs : map (λ (d : CallDrops). (d.clause, d.call)) l.drops ≡ pairs_of p comps c
    pub places : AllByRecursion (λ (d : CallDrops). HasPlace expression p rows l.measures (d.clause, d.call) d.by) l.drops
    pub needed : AreNeeded l
    pub at : AllByRecursion (IsZeroOutside (positions_in p comps c)) (mappings_of l)
    pub descends : ListDescends expression (component_view expression p comps rows c) (mappings_of l)

  abbrev pub supports : FoundLists → List (List ℕ)
  supports f = map (support_of_list (positions_in p comps c)) f.lists

  -- the search for a list at a set of positions is given up
  abbrev pub IsGivenUpAt : List ℕ → Type 0
  IsGivenUpAt s = IsGivenUp expression (component_view expression p comps rows c) (arity_in p) (positions_at expression p comps rows c s)

  -- no mapping decreases at a set, or that is not known, since the set's system is blown
  abbrev pub IsUnmapped : List ℕ → Type 0
  IsUnmapped s = IsBlownSet expression p comps rows c s ⊎ IsExcluded (HasSupportIn expression p comps rows c) s

  -- a list may be missing: no mapping was found at the set, and the search for a list was given up
  abbrev pub MayBeMissing : List ℕ → Type 0
  MayBeMissing s = IsGivenUpAt s × IsUnmapped s

  -- a stuck set that the check of a certificate accepts: a refutation without directions
  pub record IsStuckSetOf (r : Refutation) : Type 0 where
    pub some : 1 ≤ length r.points
    pub refutes : IsRefutationOf expression p comps rows c r
    pub single : AllByRecursion (λ (x : PairPoint). x.at ≡ None) r.points

  -- up to 12 positions: one list for each minimal support, in order; each list that descends has one of them within its
  -- support, unless that is above one that was given up; and a list is of one mapping where one decreases with its
  -- support
  pub record AreSmallLists (f : FoundLists) : Type 0 where
    pub minimal : (s : List ℕ) → In s (supports f) → IsMinimal HasList s
    pub within : (s : List ℕ) → HasList s → IsAbove (supports f) s ⊎ IsAbove f.blown s
    pub order : IsSubsequence (supports f) (chosen_up_to (count expression p comps rows c) (count expression p comps rows c))
    pub single : AllByRecursion (λ (l : MeasureList). IsLong l
        → IsBlownSet expression p comps rows c (support_of_list (positions_in p comps c) l) ⊎ (HasSupportIn expression p comps rows c (support_of_list (positions_in p comps c) l) → ⊥)) f.lists
    pub given_up : (s : List ℕ) → In s f.blown → MayBeMissing s

  -- none of the positions of a list can be left out, but where the search without it was given up
  abbrev pub IsWithoutSpare : List (List ℕ) → MeasureList → Type 0
  IsWithoutSpare blown l = (i : ℕ) → In i (support_of_list (positions_in p comps c) l)
      → In (without_number i (support_of_list (positions_in p comps c) l)) blown
      ⊎ IsExcluded HasList (without_number i (support_of_list (positions_in p comps c) l))

  -- a list of two or more only where no mapping was found at some set with all of its positions
  abbrev pub IsLongAtNeed : MeasureList → Type 0
  IsLongAtNeed l = IsLong l → (t : List ℕ) × (is_part (support_of_list (positions_in p comps c) l) t ≡ true) × IsUnmapped t

  -- more: one list at most, none of whose positions can be left out; or a stuck set; or the set of all positions was
  -- given up
  pub record AreLargeLists (f : FoundLists) : Type 0 where
    pub few : length f.lists ≤ 1
    pub single : AllByRecursion IsLongAtNeed f.lists
    pub spare : AllByRecursion (IsWithoutSpare f.blown) f.lists
    pub decided : (1 ≤ length f.lists) ⊎ (f.refutation ≢ None) ⊎ In (full expression p comps rows c) f.blown
    pub given_up : (s : List ℕ) → In s f.blown → MayBeMissing s
    -- where there is a list, each set that was given up is its support without one of its positions
    pub left_out : (s : List ℕ) → In s (supports f) → (t : List ℕ) → In t f.blown → (i : ℕ) × In i s × (t ≡ without_number i s)

  pub record AreFoundLists (f : FoundLists) : Type 0 where
    pub large : IsTrue f.large ↔ (12 < count expression p comps rows c)
    pub lists : AllByRecursion IsDescendingList f.lists
    pub small : f.large ≡ false → AreSmallLists f
    pub more : f.large ≡ true → AreLargeLists f
    -- a stuck set exactly where no list descends and the set of all positions was not given up
    pub stuck : (f.refutation ≢ None) ↔ (((s : List ℕ) → HasList s → ⊥) × (In (full expression p comps rows c) f.blown → ⊥))
    pub shown : (r : Refutation) → f.refutation ≡ Some r → IsStuckSetOf r
    -- what was given up are sets of positions, above no support that was found, and each stands once
    pub sets : (s : List ℕ) → In s f.blown → IsSet 1 (suc (count expression p comps rows c)) s
    pub once : AreOnce f.blown
    pub apart : (s : List ℕ) → In s f.blown → IsAbove (supports f) s → ⊥
