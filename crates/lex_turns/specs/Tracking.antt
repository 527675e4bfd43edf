-- Private.
-- The calls of a component in the course of the turns, as the code keeps them. Nothing here has to be believed.
use Rattle.std.specs.Prelude.{◌≡◌, ◌++◌, ℕ, suc, ℤ, Bool, true, false, is_some, List, [], ◌∷◌, drop, length, map, Option, None, Some}
use Rattle.cti_terms.specs.Listing.{Listing}
use Rattle.cti_terms.specs.Tree.{Tree}
use Rattle.call_components.specs.Numbers.{number_of}
use Rattle.call_components.specs.Partition.{Partition}
use Rattle.linear_rows.specs.Showing.{AreMultipliers}
use Rattle.linear_rows.specs.declared.multipliers.Multipliers.{Multipliers}
use Rattle.termination_model.specs.mappings.ComponentViews.{members_in}
use Rattle.termination_model.specs.mappings.OwnCalls.{OwnCall as Recalled}
use Rattle.termination_model.specs.lists.Turns.{AreTurns, Turn, remaining}
use Rattle.level_systems.specs.Held.{live_of, numbers_of_call, recalled_at, spelled}
use Rattle.level_systems.specs.declared.component.Component.{Component}
use Rattle.level_systems.specs.declared.measure.Measure.{Measure}
use Rattle.level_systems.specs.declared.own_call.OwnCall.{OwnCall}
use Rattle.level_systems.specs.declared.position.Position.{Position}
use Rattle.lex_turns.specs.Descending.{AreMeasuresOf}
use Rattle.lex_turns.specs.Testing.{ShowsDrop, first_by}
use Rattle.lex_turns.specs.declared.call_drops.CallDrops.{CallDrops}

-- the calls that are not gone
abbrev pub kept : List OwnCall → List Bool → List OwnCall
kept [] gs = []
kept (own ∷ owns) [] = []
kept (own ∷ owns) (true ∷ gs) = kept owns gs
kept (own ∷ owns) (false ∷ gs) = own ∷ kept owns gs

-- how many are not gone
abbrev pub staying : List Bool → ℕ
staying [] = 0
staying (true ∷ gs) = staying gs
staying (false ∷ gs) = suc (staying gs)

-- of those that were not gone, those are now that fall
abbrev pub after_falls : List Bool → List Bool → List Bool
after_falls [] fs = []
after_falls (true ∷ gs) fs = true ∷ after_falls gs fs
after_falls (false ∷ gs) [] = false ∷ after_falls gs []
after_falls (false ∷ gs) (f ∷ fs) = f ∷ after_falls gs fs

-- calls that are never reached are gone from the start, with what shows that
abbrev pub gone_first : OwnCall → Bool
gone_first own = is_some own.empty

abbrev pub given : Option Multipliers → List Multipliers
given None = []
given (Some by) = by ∷ []

abbrev pub drops_first : OwnCall → CallDrops
drops_first own = record { clause = own.clause; call = own.call; by = given own.empty }

abbrev pub with_by : CallDrops → Multipliers → CallDrops
with_by d by = record { clause = d.clause; call = d.call; by = d.by ++ by ∷ [] }

-- those that are not gone have one multiplier more
abbrev pub after_drops : List OwnCall → List Bool → List ℤ → List CallDrops → List CallDrops
after_drops [] gs values ds = ds
after_drops (own ∷ owns) [] values ds = ds
after_drops (own ∷ owns) (g ∷ gs) values [] = []
after_drops (own ∷ owns) (true ∷ gs) values (d ∷ ds) = d ∷ after_drops owns gs values ds
after_drops (own ∷ owns) (false ∷ gs) values (d ∷ ds) = with_by d (first_by own values) ∷ after_drops owns gs (drop (length own.rows.list) values) ds

-- multipliers of a call show that it drops by this number
abbrev pub Shown : ℕ → List Measure → OwnCall → Multipliers → Type 0
Shown d ms own by = AreMultipliers (length own.rows.list) by × ShowsDrop d ms own by

-- measure by measure, the call does not rise
abbrev pub ShowStays : List (List Measure) → OwnCall → List Multipliers → Type 0
ShowStays [] own [] = Unit {0}
ShowStays [] own (by ∷ bys) = ⊥
ShowStays (ms ∷ mss) own [] = ⊥
ShowStays (ms ∷ mss) own (by ∷ bys) = Shown 0 ms own by × ShowStays mss own bys

-- and at the last one it falls
abbrev pub ShowPlace : List (List Measure) → OwnCall → List Multipliers → Type 0
ShowPlace mss own [] = ⊥
ShowPlace [] own (by ∷ bys) = ⊥
ShowPlace (ms ∷ mss) own (by ∷ []) = Shown 1 ms own by
ShowPlace (ms ∷ mss) own (by ∷ (next ∷ bys)) = Shown 0 ms own by × ShowPlace mss own (next ∷ bys)

-- a call that is gone has its place, or, before the first measure, what shows that it is never reached
abbrev pub HasLeft : List (List Measure) → OwnCall → List Multipliers → Type 0
HasLeft [] own bys = (by : Multipliers) × (own.empty ≡ Some by) × (bys ≡ by ∷ [])
HasLeft (ms ∷ mss) own bys = ShowPlace (ms ∷ mss) own bys

abbrev pub IsTracked : List (List Measure) → OwnCall → Bool → CallDrops → Type 0
IsTracked mss own true d = (d.clause ≡ own.clause) × (d.call ≡ own.call) × HasLeft mss own d.by
IsTracked mss own false d = (d.clause ≡ own.clause) × (d.call ≡ own.call) × ShowStays mss own d.by

-- each call has its drops so far
abbrev pub AreTracked : List (List Measure) → List OwnCall → List Bool → List CallDrops → Type 0
AreTracked mss [] [] [] = Unit {0}
AreTracked mss [] [] (d ∷ ds) = ⊥
AreTracked mss [] (g ∷ gs) ds = ⊥
AreTracked mss (own ∷ owns) [] ds = ⊥
AreTracked mss (own ∷ owns) (g ∷ gs) [] = ⊥
AreTracked mss (own ∷ owns) (g ∷ gs) (d ∷ ds) = IsTracked mss own g d × AreTracked mss owns gs ds

module _ (expression : ℕ → Tree → List ℤ) (p : Listing) (comps : Partition) (rows : ℕ → List (List ℤ)) (c : ℕ) (x : Component) (at : List Position) where
  abbrev pub recalled : List OwnCall → List Recalled
  recalled owns = map (λ (own : OwnCall). recalled_at expression p rows comps c (numbers_of_call own)) owns

  -- turns whose measures these are leave these calls
  pub record HasTurns (mss : List (List Measure)) (rest : List OwnCall) : Type 0 where
    pub turns : List Turn
    pub are : AreTurns expression (map spelled at) (map number_of x.by_clauses.items) (recalled (live_of x.calls.items)) turns
    pub left : remaining (recalled (live_of x.calls.items)) turns ≡ recalled rest
    pub measures : AreMeasuresOf p (members_in comps c) (map spelled at) (map number_of x.by_clauses.items) turns mss
