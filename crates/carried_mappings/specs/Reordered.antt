-- Private.
-- What is found of a component's mappings, where its members stand in another order.
--
-- Clauses keep their order, and so do falls and points. Positions are numbered by members, so they have other numbers.
-- `places` are the places where the members stood, and `olds` the numbers that the positions had, for each of them as
-- they stand now.
use Rattle.std.specs.Prelude.{◌≡◌, ◌&&◌, ℕ, suc, nat_eq, pos, if◌then◌else◌, Bool, List, [], ◌∷◌, length, map, filter, option_map, slice_get, slice_index_or, Some}
use Rattle.std.specs.List.{flat_map, list_any}
use Rattle.cti_terms.specs.Listing.{Listing}
use Rattle.termination_model.specs.grounds.Modes.{chosen_up_to, is_part}
use Rattle.termination_model.specs.mappings.OwnCalls.{Position}
use Rattle.level_systems.specs.Mappings.{support_of}
use Rattle.level_systems.specs.declared.found.Found.{Found}
use Rattle.level_systems.specs.declared.mapping.Mapping.{Mapping}
use Rattle.level_systems.specs.declared.measure.Measure.{Measure}
use Rattle.component_laws.specs.Supported.{IsNumber}
use Rattle.carried_mappings.specs.Moved.{moved_fall, moved_refutation}

-- ---- places and numbers from before
-- the member stood at this place
pub record IsPlace (p new : Listing) (before : List ℕ) (r j : ℕ) : Type 0 where
  pub pred : ℕ
  pub at : slice_get before j ≡ Some pred
  pub named : slice_get p.preds pred ≡ slice_get new.preds r

abbrev pub ArePlaces : Listing → Listing → List ℕ → List ℕ → List ℕ → Type 0
ArePlaces p new before [] [] = Unit {0}
ArePlaces p new before [] (j ∷ js) = ⊥
ArePlaces p new before (r ∷ rs) [] = ⊥
ArePlaces p new before (r ∷ rs) (j ∷ js) = IsPlace p new before r j × ArePlaces p new before rs js

-- the position had this number
pub record IsOldNumber (p new : Listing) (before : List Position) (x : Position) (n : ℕ) : Type 0 where
  pub at : Position
  pub number : IsNumber 1 before n at
  pub named : slice_get p.preds at.0 ≡ slice_get new.preds x.0
  pub argument : at.1 ≡ x.1

abbrev pub AreOldNumbers : Listing → Listing → List Position → List Position → List ℕ → Type 0
AreOldNumbers p new before [] [] = Unit {0}
AreOldNumbers p new before [] (n ∷ ns) = ⊥
AreOldNumbers p new before (x ∷ xs) [] = ⊥
AreOldNumbers p new before (x ∷ xs) (n ∷ ns) = IsOldNumber p new before x n × AreOldNumbers p new before xs ns

-- there is such a place, and such a number
abbrev pub HasPlace : Listing → Listing → List ℕ → ℕ → Type 0
HasPlace p new before r = (j : ℕ) × IsPlace p new before r j

abbrev pub HasOldNumber : Listing → Listing → List Position → Position → Type 0
HasOldNumber p new before x = (n : ℕ) × IsOldNumber p new before x n

-- ---- parts
-- what no place has
abbrev pub no_measure : Measure
no_measure = record { pred = record { 0 = 0 }; part = record { coeffs = []; offset = pos 0 } }

-- the parts at these places, of these members
abbrev pub placed : List ℕ → List ℕ → List Measure → List Measure
placed [] js ms = []
placed (r ∷ rs) [] ms = []
placed (r ∷ rs) (j ∷ js) ms = record { pred = record { 0 = r }; part = (slice_index_or ms j no_measure).part } ∷ placed rs js ms

abbrev pub reordered_mapping : (ℕ → ℕ) → List ℕ → List ℕ → Mapping → Mapping
reordered_mapping g members places m = record { measures = placed members places m.measures; falls = map (moved_fall g) m.falls }

-- ---- sets
-- the numbers, from i on, of the positions whose old numbers are in a set
abbrev pub renumbered_from : ℕ → List ℕ → List ℕ → List ℕ
renumbered_from i [] s = []
renumbered_from i (n ∷ olds) s = if list_any (λ y. nat_eq n y) s then i ∷ renumbered_from (suc i) olds s else renumbered_from (suc i) olds s

abbrev pub renumbered : List ℕ → List ℕ → List ℕ
renumbered olds s = renumbered_from 1 olds s

abbrev pub is_same_set : List ℕ → List ℕ → Bool
is_same_set s t = is_part s t && is_part t s

-- ---- the order of mappings
-- those that have this set
abbrev pub of_set : {X : Type 0} → (X → List ℕ) → List X → List ℕ → List X
of_set set xs t = filter (λ x. is_same_set (set x) t) xs

-- by their sets of numbers up to n; one alone stays
abbrev pub by_sets : {X : Type 0} → ℕ → (X → List ℕ) → List X → List X
by_sets n set [] = []
by_sets n set (x ∷ []) = x ∷ []
by_sets n set (x ∷ y ∷ xs) = flat_map (of_set set (x ∷ y ∷ xs)) (chosen_up_to n n)

-- the support of a mapping under the new numbers
abbrev pub support_there : List Position → List ℕ → Mapping → List ℕ
support_there before olds m = renumbered olds (support_of before m)

abbrev pub reordered_found : (ℕ → ℕ) → List ℕ → List ℕ → List Position → List ℕ → Found → Found
reordered_found g members places before olds f = record {
  mappings = map (reordered_mapping g members places) (by_sets (length olds) (support_there before olds) f.mappings);
  refutation = option_map (moved_refutation g) f.refutation;
  blown = map (renumbered olds) f.blown;
  large = f.large;
}
