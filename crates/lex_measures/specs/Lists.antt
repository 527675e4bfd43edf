-- Private.
-- The lists, drops and stuck sets of a certificate, of what is found of components.
--
-- Nothing here has to be believed.
use Rattle.std.specs.Prelude.{◌≡◌, ◌<◌, ◌⊎◌, ℕ, suc, false, if◌then◌else◌, List, [], ◌∷◌, length, map, slice_get, Option, None, Some, unwrap_or}
use Rattle.std.specs.List.{AllByRecursion}
use Rattle.call_components.specs.Partition.{Partition}
use Rattle.cert_assembly.specs.Leading.{led_by}
use Rattle.cert_assembly.specs.Parted.{part_or_zero, zero_part}
use Rattle.cert_structure.specs.Shape.{arity_in, body_of, head_of, is_own_call, is_recursive}
use Rattle.cti_terms.specs.Listing.{Listing}
use Rattle.cti_terms.specs.declared.atom_list.Atom.{Atom}
use Rattle.level_systems.specs.Mappings.{level_in}
use Rattle.level_systems.specs.declared.measure.Measure.{Measure}
use Rattle.lex_turns.specs.declared.call_drops.CallDrops.{CallDrops}
use Rattle.lex_turns.specs.declared.found_lists.FoundLists.{FoundLists}
use Rattle.lex_turns.specs.declared.measure_list.MeasureList.{MeasureList}
use Rattle.linear_rows.specs.Step.{columns}
use Rattle.linear_rows.specs.declared.multipliers.Multipliers.{Multipliers}
use Rattle.number_tests.specs.declared.level_part.LevelPart.{LevelPart}
use Rattle.number_tests.specs.declared.refutation.Refutation.{Refutation}
use Rattle.lex_measures.specs.Exact.{place_in}

-- the parts of a predicate with n arguments in the mappings of a list; zeros, where a mapping has none
abbrev pub list_of : ℕ → ℕ → MeasureList → List LevelPart
list_of n q l = map (λ (ms : List Measure). part_or_zero n (level_in ms q)) l.measures

abbrev pub place_or_none : Option (List Multipliers) → List Multipliers
place_or_none None = []
place_or_none (Some bys) = bys

-- the multipliers of a call up to its place in a list; none, where the list has none. The clause and the call count
-- from 1
abbrev pub place_of : ℕ → ℕ → MeasureList → List Multipliers
place_of k j l = place_or_none (place_in l.drops k j)

-- the drops before an index are of calls before this one
abbrev pub IsPassed : List CallDrops → ℕ → ℕ → ℕ → Type 0
IsPassed drops n k j = (x : ℕ) (d : CallDrops) → x < n → slice_get drops x ≡ Some d → (d.clause < k) ⊎ ((d.clause ≡ k) × (d.call < j))

abbrev pub ArePassed : List MeasureList → ℕ → ℕ → ℕ → Type 0
ArePassed ls n k j = AllByRecursion (λ (l : MeasureList). IsPassed l.drops n k j) ls

-- the drops at an index are those of this call
abbrev pub AreDropsAt : List CallDrops → ℕ → ℕ → ℕ → Type 0
AreDropsAt drops n k j = (d : CallDrops) → slice_get drops n ≡ Some d → (d.clause ≡ k) × (d.call ≡ j)

-- no lists, where none are searched
abbrev pub nothing : FoundLists
nothing = record { lists = []; refutation = None; blown = []; large = false }

module _ (found : List FoundLists) where
  -- what is found of a component
  abbrev pub found_of : ℕ → FoundLists
  found_of c = unwrap_or (slice_get found c) nothing

  abbrev pub lists_of_component : Option ℕ → List MeasureList
  lists_of_component None = []
  lists_of_component (Some c) = (found_of c).lists

  abbrev pub stuck_of : Option ℕ → Option Refutation
  stuck_of None = None
  stuck_of (Some c) = (found_of c).refutation

module _ (comps : Partition) (found : List FoundLists) where
  -- the lists of a predicate's component
  abbrev pub lists_at : ℕ → List MeasureList
  lists_at q = lists_of_component found (slice_get comps.of q)

module _ (p : Listing) (comps : Partition) (found : List FoundLists) where
  -- the parts of a predicate in its component's lists: one list of one part of zeros, where that is not recursive
  abbrev pub printed_at : ℕ → List (List LevelPart)
  printed_at q = if is_recursive comps q then map (list_of (arity_in p q) q) (lists_at comps found q) else (zero_part (arity_in p q) ∷ []) ∷ []

  -- the multipliers of a call of a clause, for each list; clauses and calls are counted from 0 here
  abbrev pub drops_at : ℕ → ℕ → Option Atom → List (List Multipliers)
  drops_at k j b = if is_own_call comps (head_of p k) b then map (place_of (suc k) (suc j)) (lists_at comps found (head_of p k)) else []

  -- those of the calls of a body, the first of which has the number j
  abbrev pub drops_from : ℕ → ℕ → List Atom → List (List (List Multipliers))
  drops_from k j [] = []
  drops_from k j (b ∷ bs) = drops_at k j (Some b) ∷ drops_from k (suc j) bs

  -- those of all predicates, and of all clauses
  abbrev pub printed_lists : List (List (List LevelPart))
  printed_lists = map printed_at (columns 0 (length p.preds))

  abbrev pub printed_drops : List (List (List (List Multipliers)))
  printed_drops = map (λ k. drops_from k 0 (body_of p k)) (columns 0 (length p.clauses))

  abbrev pub printed_stuck : List (Option Refutation)
  printed_stuck = map (λ q. stuck_of found (led_by comps q)) (columns 0 (length p.preds))
