-- Private.
-- To believe, for the modes by measures of numbers.
-- What comes of a turn.
--
-- A mapping is found with naturals that show it; or multipliers refute the turn's template; or the template is blown,
-- which is said of its rows: elimination is blown on them.
--
-- To believe: `IsTurned`, `IsTurnedExactly`, for who is found and who is blown.
use Rattle.std.specs.Prelude.{◌≡◌, ◌++◌, ℕ, ℤ, pos, Bool, true, List, [], ◌∷◌, map, length}
use Rattle.std.specs.List.{AllByRecursion}
use Rattle.linear_rows.specs.Members.{In}
use Rattle.linear_rows.specs.Proves.{Refutes}
use Rattle.linear_rows.specs.Replacing.{row_fits}
use Rattle.linear_rows.specs.Rows.{IsPoint}
use Rattle.linear_rows.specs.Solving.{Solution, solution}
use Rattle.linear_rows.specs.Solving.Solution.{Blown, Found, Refuted}
use Rattle.transitions.specs.StuckSets.{Feature}
use Rattle.transitions.specs.TemplateLaws.{number_count}
use Rattle.transitions.specs.Templates.{Target, differences, row_count, template_rows, unknown_count}
use Rattle.transitions.specs.Transitions.{Transition}
use Rattle.transitions.specs.Turns.{AreShown, HasWidths, IsRefutedTurn, IsTurn, LacksNone, mapping_of, targets}
use Rattle.number_turns.specs.declared.found.Found.{Found as FoundNumbers}
use Rattle.number_turns.specs.declared.turned.Turned.{Turned}
use Rattle.number_turns.specs.declared.turned.Turned.TheVariants as turned

module _ (fs : List Feature) (τs : List Transition) (marks : List Bool) where
  -- the template of a turn, and what elimination finds for it
  abbrev pub turn_targets : List Target
  turn_targets = targets fs τs marks

  abbrev pub turn_unknowns : ℕ
  turn_unknowns = unknown_count (length fs) turn_targets

  abbrev pub turn_rows : List (List ℤ)
  turn_rows = template_rows turn_targets

  abbrev pub turn_solution : Solution
  turn_solution = solution turn_unknowns turn_rows

  -- the numbers of a mapping, and multipliers, at these values of the unknowns
  pub record IsAt (w : List ℤ) (f : FoundNumbers) : Type 0 where
    pub more : List ℕ
    pub less : List ℕ
    pub multipliers : List ℕ
    pub w_is : w ≡ map pos (more ++ (less ++ multipliers))
    pub more_long : length more ≡ length fs
    pub less_long : length less ≡ length fs
    pub long : length multipliers ≡ row_count turn_targets
    pub numbers_are : f.numbers ≡ differences more less
    pub multipliers_are : f.multipliers ≡ map pos multipliers

  -- a point of the template gives the numbers, which fit, and its multipliers show what is asked of the mapping
  pub record IsFound (f : FoundNumbers) : Type 0 where
    pub t : ℤ
    pub w : List ℤ
    pub point : IsPoint turn_unknowns turn_rows t w
    pub at : IsAt w f
    pub fit : row_fits f.numbers ≡ true
    pub shown : (width : ℕ → ℕ) → AllByRecursion (HasWidths width) τs → AllByRecursion (LacksNone fs) τs
        → AreShown (mapping_of width fs f.numbers) τs marks at.multipliers

  -- naturals that refute the template
  pub record IsRefuted (ms : List ℤ) : Type 0 where
    pub multipliers : List ℕ
    pub multipliers_are : ms ≡ map pos multipliers
    pub long : length multipliers ≡ number_count turn_targets
    pub refutes : Refutes turn_unknowns turn_rows (map pos multipliers)

  abbrev pub IsTurned : Turned → Type 0
  IsTurned (turned.Found f) = IsFound f
  IsTurned (turned.Refuted ms) = IsRefuted ms
  IsTurned turned.Blown = (step : ℕ) × (wide : Bool) × (turn_solution ≡ Blown step wide)

  -- what elimination finds
  abbrev pub IsTurnedExactly : Turned → Type 0
  IsTurnedExactly (turned.Found f) = (t : ℤ) × (w : List ℤ) × (turn_solution ≡ Found t w) × IsAt w f
  IsTurnedExactly (turned.Refuted ms) = turn_solution ≡ Refuted ms
  IsTurnedExactly turned.Blown = (step : ℕ) × (wide : Bool) × (turn_solution ≡ Blown step wide)

-- what is found is a turn of a list
abbrev pub FoundIsTurn : Type 0
FoundIsTurn = (width : ℕ → ℕ) (fs : List Feature) (τs : List Transition) (marks : List Bool) (f : FoundNumbers)
    → AllByRecursion (HasWidths width) τs → AllByRecursion (LacksNone fs) τs → IsFound fs τs marks f → IsTurn τs (mapping_of width fs f.numbers) marks

-- what is refuted with the first transition marked is a refuted turn of any transitions that these are among
abbrev pub RefutedIsTurn : Type 0
RefutedIsTurn = (fs : List Feature) (τs : List Transition) (first : Transition) (others : List Transition) (ms : List ℤ) (h : IsRefuted fs (first ∷ others) (true ∷ []) ms)
    → In first τs → AllByRecursion (λ (τ : Transition). In τ τs) others → IsRefutedTurn fs τs (record { first = first; others = others; multipliers = h.multipliers })
