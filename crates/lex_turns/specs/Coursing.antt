-- Private.
-- The course of a search as the code keeps it. Nothing here has to be believed.
use Rattle.std.specs.Prelude.{◌≡◌, ◌⊎◌, ◌<◌, ◌≤◌, ◌++◌, ℕ, suc, ℤ, Bool, true, false, List, [], ◌∷◌, length, map, None}
use Rattle.call_components.specs.Numbers.{number_of}
use Rattle.call_components.specs.Partition.{Partition}
use Rattle.cti_terms.specs.Listing.{Listing}
use Rattle.cti_terms.specs.Tree.{Tree}
use Rattle.linear_rows.specs.Proves.{Refutes}
use Rattle.termination_model.specs.mappings.ComponentViews.{component_view}
use Rattle.termination_model.specs.mappings.Ready.{arity_in}
use Rattle.termination_model.specs.lists.TurnSystem.{turn_rows, turn_unknowns}
use Rattle.level_dual.specs.Components.{ForComponent}
use Rattle.level_systems.specs.Held.{spelled}
use Rattle.level_systems.specs.declared.component.Component.{Component}
use Rattle.level_systems.specs.declared.measure.Measure.{Measure}
use Rattle.level_systems.specs.declared.own_call.OwnCall.{OwnCall}
use Rattle.level_systems.specs.declared.position.Position.{Position}
use Rattle.lex_turns.specs.Descending.{IsGivenUp, IsListAt, IsTurnBlown}
use Rattle.lex_turns.specs.FoundLists.{AreNeeded}
use Rattle.lex_turns.specs.Tracking.{AreTracked, HasTurns, after_drops, after_falls, kept, recalled, staying}
use Rattle.lex_turns.specs.declared.call_drops.CallDrops.{CallDrops}
use Rattle.lex_turns.specs.declared.course.Course.{Course}
use Rattle.lex_turns.specs.declared.course.Ended.{Ended}
use Rattle.lex_turns.specs.declared.course.Ended.TheVariants as ended
use Rattle.lex_turns.specs.declared.course.Next.{Next}
use Rattle.lex_turns.specs.declared.course.Next.TheVariants as next
use Rattle.lex_turns.specs.declared.turn.Made.{Made}

-- the calls that remain
abbrev pub remaining_of : Component → Course → List OwnCall
remaining_of x course = kept x.calls.items course.gone.items

-- there are no measures yet
abbrev pub is_none : {X : Type 0} → List X → Bool
is_none [] = true
is_none (x ∷ xs) = false

-- the calls that are not gone can be reached
abbrev pub KeepReached : List OwnCall → List Bool → Type 0
KeepReached [] gs = Unit {0}
KeepReached (own ∷ owns) [] = Unit {0}
KeepReached (own ∷ owns) (true ∷ gs) = KeepReached owns gs
KeepReached (own ∷ owns) (false ∷ gs) = (own.empty ≡ None) × KeepReached owns gs

-- some call that can be reached left in the turn of this number, from 0 on
abbrev pub SomeLeft : ℕ → List OwnCall → List Bool → List CallDrops → Type 0
SomeLeft i [] gs ds = ⊥
SomeLeft i (own ∷ owns) [] ds = ⊥
SomeLeft i (own ∷ owns) (g ∷ gs) [] = ⊥
SomeLeft i (own ∷ owns) (true ∷ gs) (d ∷ ds) = ((own.empty ≡ None) × (length d.by ≡ suc i)) ⊎ SomeLeft i owns gs ds
SomeLeft i (own ∷ owns) (false ∷ gs) (d ∷ ds) = SomeLeft i owns gs ds

-- each call has its drops, and turns have left the calls that remain
pub record IsCourse (p : Listing) (x : Component) (at : List Position) (course : Course) : Type 0 where
  pub gone : length course.gone.items ≡ length x.calls.items
  pub drops : length course.drops.items ≡ length x.calls.items
  pub tracked : AreTracked course.measures x.calls.items course.gone.items course.drops.items
  pub turns : ForComponent p x (λ expression comps rows c. HasTurns expression p comps rows c x at course.measures (remaining_of x course))
  pub reached : KeepReached x.calls.items course.gone.items
  pub leave : (i : ℕ) → i < length course.measures → SomeLeft i x.calls.items course.gone.items course.drops.items

-- where a search stops, each call is gone or not
abbrev pub HasGone : Component → Ended → Type 0
HasGone x (ended.List l) = Unit {0}
HasGone x (ended.Refuted gone) = length gone.items ≡ length x.calls.items
HasGone x ended.GivenUp = Unit {0}

-- a turn was added
pub record IsAdvanced (x : Component) (m : Made) (old new : Course) : Type 0 where
  pub gone : new.gone.items ≡ after_falls old.gone.items m.falls
  pub drops : new.drops.items ≡ after_drops x.calls.items old.gone.items m.values old.drops.items
  pub measures : new.measures ≡ old.measures ++ m.measures ∷ []

module _ (expression : ℕ → Tree → List ℤ) (p : Listing) (comps : Partition) (rows : ℕ → List (List ℤ)) (c : ℕ) (x : Component) (at : List Position) where
  -- the system of a turn for these calls is refuted
  abbrev pub IsRefuted : List OwnCall → Type 0
  IsRefuted rest =
      (ns : List ℤ)
      × Refutes (turn_unknowns expression (map spelled at) (map number_of x.by_clauses.items) (recalled expression p comps rows c x at rest))
      (turn_rows expression (map spelled at) (map number_of x.by_clauses.items) (recalled expression p comps rows c x at rest)) ns

  abbrev pub CannotTurn : Bool → List OwnCall → Type 0
  CannotTurn first rest = IsTurnBlown expression (component_view expression p comps rows c) (arity_in p) (map spelled at) first (recalled expression p comps rows c x at rest)

-- how the search goes on from the course that it has now
abbrev pub IsNext : Listing → Component → List Position → Course → Course → Next → Type 0
IsNext p x at old new next.More = staying new.gone.items < staying old.gone.items
IsNext p x at old new next.Done = remaining_of x new ≡ []
IsNext p x at old new next.Refuted = (1 ≤ length (remaining_of x new)) × ForComponent p x (λ expression comps rows c. IsRefuted expression p comps rows c x at (remaining_of x new))
IsNext p x at old new next.Blown = (1 ≤ length (remaining_of x new)) × ForComponent p x (λ expression comps rows c. CannotTurn expression p comps rows c x at (is_none new.measures) (remaining_of x new))

-- how a search for calls that stick goes on from those that are gone now
abbrev pub IsLess : Listing → Component → List Position → List Bool → List Bool → Next → Type 0
IsLess p x at old new next.More = staying new < staying old
IsLess p x at old new next.Done = Unit {0}
IsLess p x at old new next.Refuted = (1 ≤ length (kept x.calls.items new)) × ForComponent p x (λ expression comps rows c. IsRefuted expression p comps rows c x at (kept x.calls.items new))
IsLess p x at old new next.Blown = Unit {0}

module _ (expression : ℕ → Tree → List ℤ) (p : Listing) (comps : Partition) (rows : ℕ → List (List ℤ)) (c : ℕ) (x : Component) (at : List Position) where
  -- some turns leave calls for which none can be made
  pub record IsStopped (gone : List Bool) : Type 0 where
    pub measures : List (List Measure)
    pub turns : HasTurns expression p comps rows c x at measures (kept x.calls.items gone)
    pub some : 1 ≤ length (kept x.calls.items gone)
    pub refuted : IsRefuted expression p comps rows c x at (kept x.calls.items gone)

  abbrev pub IsEnded : Ended → Type 0
  IsEnded (ended.List l) = IsListAt expression p comps rows c (map spelled at) l × AreNeeded expression p comps rows c l
  IsEnded (ended.Refuted gone) = IsStopped gone.items
  IsEnded ended.GivenUp = IsGivenUp expression (component_view expression p comps rows c) (arity_in p) (map spelled at)
