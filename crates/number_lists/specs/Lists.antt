-- Private.
-- To believe, for the modes by measures of numbers.
-- Lists of mappings with what shows that they descend, and stuck sets, as the code gives them.
--
-- To believe: `HavePlaces`, `AreGroupsOf`.
use Rattle.std.specs.Prelude.{◌≡◌, ◌<◌, ◌≤◌, ℕ, suc, ℤ, pos, List, [], ◌∷◌, map, length, slice_get, Option, None, Some}
use Rattle.linear_rows.specs.declared.point.Point.{Point}
use Rattle.termination_model.specs.claims.Claims.{SomeOf}
use Rattle.termination_model.specs.columns.ColumnClaims.{Mapping}
use Rattle.transitions.specs.StuckSets.{Group, Point as PointOf}
use Rattle.transitions.specs.Transitions.{Transition, fall, head_level}
use Rattle.transitions.specs.Turns.{RowProved, mapping_of}
use Rattle.number_turns.specs.Recalled.{spelled}
use Rattle.number_lists.specs.declared.group.Group.{Group as HeldGroup}
use Rattle.number_lists.specs.declared.mapping.Mapping.{Mapping as HeldMapping}
use Rattle.number_lists.specs.declared.measure_list.MeasureList.{MeasureList}
use Rattle.number_lists.specs.declared.place.Place.{Place}
use Rattle.number_lists.specs.declared.transition_point.TransitionPoint.{TransitionPoint}

-- a held mapping, where each member has so many columns
abbrev pub recalled_mapping : (ℕ → ℕ) → HeldMapping → Mapping
recalled_mapping width l = mapping_of width (map spelled l.features) l.numbers

abbrev pub mappings_of : (ℕ → ℕ) → MeasureList → List Mapping
mappings_of width l = map (recalled_mapping width) l.mappings

-- a list of two mappings or more
abbrev pub IsLong : MeasureList → Type 0
IsLong l = 2 ≤ length l.mappings

-- naturals, one for each row at most, prove a row with scale 1
abbrev pub IsProvedBy : List (List ℤ) → List ℤ → Option (List ℤ) → Type 0
IsProvedBy rows zs row = (ms : List ℕ) × (zs ≡ map pos ms) × (length ms ≡ length rows) × RowProved rows ms row

-- a transition has its place where its last multipliers are: there the level falls and is at least 0 on the head, and
-- it rises in none of the mappings before
abbrev pub HasPlace : List Mapping → Transition → List (List ℤ) → List ℤ → Type 0
HasPlace ls τ [] floor = ⊥
HasPlace [] τ (by ∷ bys) floor = ⊥
HasPlace (l ∷ ls) τ (by ∷ []) floor = IsProvedBy τ.rows by (fall τ 1 l) × IsProvedBy τ.rows floor (head_level τ l)
HasPlace (l ∷ ls) τ (by ∷ (next ∷ bys)) floor = IsProvedBy τ.rows by (fall τ 0 l) × HasPlace ls τ (next ∷ bys) floor

-- the places of transitions, in their order
abbrev pub HavePlaces : List Mapping → List Transition → List Place → Type 0
HavePlaces ls [] [] = Unit {0}
HavePlaces ls [] (p ∷ ps) = ⊥
HavePlaces ls (τ ∷ τs) [] = ⊥
HavePlaces ls (τ ∷ τs) (p ∷ ps) = HasPlace ls τ p.multipliers p.floor × HavePlaces ls τs ps

-- in a list of two or more each mapping is the place of some transition
abbrev pub AreNeeded : MeasureList → Type 0
AreNeeded l = IsLong l → (i : ℕ) → i < length l.mappings → SomeOf (λ (p : Place). length p.multipliers ≡ suc i) l.places

-- ---- stuck sets
abbrev pub IsPointOf : List Transition → TransitionPoint → PointOf → Type 0
IsPointOf τs h p = (slice_get τs h.transition ≡ Some p.of) × (h.point.t ≡ pos p.t) × (h.point.w ≡ map pos p.w)

abbrev pub ArePointsOf : List Transition → List TransitionPoint → List PointOf → Type 0
ArePointsOf τs [] [] = Unit {0}
ArePointsOf τs [] (p ∷ ps) = ⊥
ArePointsOf τs (h ∷ hs) [] = ⊥
ArePointsOf τs (h ∷ hs) (p ∷ ps) = IsPointOf τs h p × ArePointsOf τs hs ps

abbrev pub IsFloorOf : Option Point → Option (ℕ × List ℕ) → Type 0
IsFloorOf None None = Unit {0}
IsFloorOf None (Some p) = ⊥
IsFloorOf (Some h) None = ⊥
IsFloorOf (Some h) (Some p) = (h.t ≡ pos p.0) × (h.w ≡ map pos p.1)

pub record IsGroupOf (τs : List Transition) (h : HeldGroup) (g : Group) : Type 0 where
  pub first : IsPointOf τs h.first g.first
  pub others : ArePointsOf τs h.others g.others
  pub floor : IsFloorOf h.floor g.floor

-- the groups that are held
abbrev pub AreGroupsOf : List Transition → List HeldGroup → List Group → Type 0
AreGroupsOf τs [] [] = Unit {0}
AreGroupsOf τs [] (g ∷ gs) = ⊥
AreGroupsOf τs (h ∷ hs) [] = ⊥
AreGroupsOf τs (h ∷ hs) (g ∷ gs) = IsGroupOf τs h g × AreGroupsOf τs hs gs
