-- Private.
-- Turns as the code makes them. Nothing here has to be believed.
use Rattle.std.specs.Prelude.{◌≡◌, ◌≤ℤ◌, ℕ, ℤ, pos, Bool, true, All, List, map, drop, length, Option, None, Some}
use Rattle.call_components.specs.Numbers.{number_of}
use Rattle.call_components.specs.Partition.{Partition}
use Rattle.cti_terms.specs.Listing.{Listing}
use Rattle.cti_terms.specs.Tree.{Tree}
use Rattle.linear_rows.specs.Proves.{Refutes}
use Rattle.termination_model.specs.mappings.ComponentViews.{component_view, members_in}
use Rattle.termination_model.specs.mappings.OwnCalls.{OwnCall as Recalled}
use Rattle.termination_model.specs.mappings.Ready.{arity_in}
use Rattle.termination_model.specs.lists.TurnSystem.{turn_rows, turn_unknowns}
use Rattle.termination_model.specs.lists.Turns.{IsTurn, Turn}
use Rattle.level_systems.specs.Held.{numbers_of_call, recalled_at, spelled}
use Rattle.level_systems.specs.Searched.{AreMeasuresAt}
use Rattle.level_systems.specs.Turned.{all_rows}
use Rattle.level_systems.specs.declared.component.Component.{Component}
use Rattle.level_systems.specs.declared.measure.Measure.{Measure}
use Rattle.level_systems.specs.declared.own_call.OwnCall.{OwnCall}
use Rattle.level_systems.specs.declared.position.Position.{Position}
use Rattle.lex_turns.specs.Descending.{IsMeasureOf, IsTurnBlown}
use Rattle.number_tests.specs.Drops.{fall_number}
use Rattle.lex_turns.specs.Testing.{EmptyFall, ShowDrops, SomeFalls}
use Rattle.lex_turns.specs.declared.turn.Made.{Made}
use Rattle.lex_turns.specs.declared.turn.Step.{Step}
use Rattle.lex_turns.specs.declared.turn.Step.TheVariants as step

-- the multipliers among the values of a turn's system with these numbers of positions, members and calls
abbrev pub multipliers_in : ℕ → ℕ → ℕ → List ℤ → List ℤ
multipliers_in positions members calls values = drop calls (drop members (drop positions values))

-- the measures rise at none of the calls, and fall at one; and where the turn is the first, they fall where a call is
-- never reached
pub record IsMade (x : Component) (rest : List OwnCall) (first : Bool) (m : Made) : Type 0 where
  pub drops : ShowDrops m.measures rest m.values m.falls
  pub some : SomeFalls m.falls
  pub empty : first ≡ true → EmptyFall m.measures x.calls.items
  pub naturals : All (λ z. pos 0 ≤ℤ z) m.values
  pub long : length m.values ≡ all_rows rest

-- the turn is there exactly where the values show one
abbrev pub IsMadeIf : Listing → Component → List Position → List OwnCall → Bool → List ℤ → Option Made → Type 0
IsMadeIf p x at rest first values None =
    (ms : List Measure) × AreMeasuresAt p x at values ms
    × ((fs : List Bool) → ShowDrops ms rest (multipliers_in (length at) (length x.by_clauses.items) (length rest) values) fs → SomeFalls fs → (first ≡ true → EmptyFall ms x.calls.items) → ⊥)
IsMadeIf p x at rest first values (Some m) =
    AreMeasuresAt p x at values m.measures × IsMade x rest first m × (m.values ≡ multipliers_in (length at) (length x.by_clauses.items) (length rest) values)

abbrev pub IsMadeStep : Component → List OwnCall → Bool → Step → Type 0
IsMadeStep x rest first (step.Made m) = IsMade x rest first m
IsMadeStep x rest first step.Refuted = Unit {0}
IsMadeStep x rest first step.Blown = Unit {0}

module _ (expression : ℕ → Tree → List ℤ) (p : Listing) (comps : Partition) (rows : ℕ → List (List ℤ)) (c : ℕ) (x : Component) (at : List Position) (rest : List OwnCall) where
  -- the calls that remain, in the words of the view
  abbrev pub told : List Recalled
  told = map (λ (own : OwnCall). recalled_at expression p rows comps c (numbers_of_call own)) rest

  abbrev pub mine : List ℕ
  mine = map number_of x.by_clauses.items

  -- what is made is a turn of the search
  pub record IsTurnOf (m : Made) : Type 0 where
    pub turn : Turn
    pub is : IsTurn expression (map spelled at) mine told turn
    pub drops : turn.drops ≡ map fall_number m.falls
    pub measures : IsMeasureOf p (members_in comps c) (map spelled at) mine turn m.measures

  abbrev pub IsStep : Bool → Step → Type 0
  IsStep first (step.Made m) = IsMade x rest first m × IsTurnOf m
  IsStep first step.Refuted = (ns : List ℤ) × Refutes (turn_unknowns expression (map spelled at) mine told) (turn_rows expression (map spelled at) mine told) ns
  IsStep first step.Blown = IsTurnBlown expression (component_view expression p comps rows c) (arity_in p) (map spelled at) first told
