-- To believe, for the modes by lists of mappings.
-- The search for a list that descends: turns, each with a point of the system of the calls that remain. The calls with
-- a positive drop leave.
--
-- To believe: `AreTurns`, `DropsFit`, `EmptyFit`. The laws say that turns that leave no call give a list that descends,
-- and that each turn leaves fewer calls.
use Rattle.std.specs.Prelude.{◌≡◌, ℕ, zero, suc, ◌≤◌, ◌<◌, ℤ, pos, true, List, [], ◌∷◌, ◌++◌, map, take, drop, length}
use Rattle.std.specs.List.{AllByRecursion}
use Rattle.cti_terms.specs.Tree.{Tree}
use Rattle.linear_rows.specs.Proves.{AllColumnsFit}
use Rattle.linear_rows.specs.Rows.{AllHold}
use Rattle.termination_model.specs.claims.Claims.{Mapping}
use Rattle.termination_model.specs.mappings.OwnCalls.{OwnCall, Position, members_of, own_calls, rows_before}
use Rattle.termination_model.specs.mappings.Ready.{positions_by}
use Rattle.termination_model.specs.lists.Stuck.{ListDescends}
use Rattle.termination_model.specs.mappings.SupportLaws.{HasFew, HasWidths}
use Rattle.termination_model.specs.mappings.Supports.{AreLives}
use Rattle.termination_model.specs.mappings.SupportSystem.{mapping_at, row_count}
use Rattle.termination_model.specs.sizes.Systems.{row_fits}
use Rattle.termination_model.specs.lists.TurnSystem.{left, turn_rows}
use Rattle.termination_model.specs.mappings.View.{Rule, fall_over}

-- a point of a turn's system
pub record Turn : Type 0 where
  pub t : ℕ
  pub coefficients : List ℕ
  pub offsets : List ℕ
  pub drops : List ℕ
  pub multipliers : List ℕ

-- the calls that remain after turns
abbrev pub remaining : List OwnCall → List Turn → List OwnCall
remaining rest [] = rest
remaining rest (u ∷ us) = remaining (left rest u.drops) us

module _ (expression : ℕ → Tree → List ℤ) (positions : List Position) (members : List ℕ) where
  -- the turn has a point of the system of these calls
  pub record IsTurn (rest : List OwnCall) (u : Turn) : Type 0 where
    pub calls : 1 ≤ length rest
    pub some : 1 ≤ u.t
    pub coefficients : length u.coefficients ≡ length positions
    pub offsets : length u.offsets ≡ length members
    pub drops : length u.drops ≡ length rest
    pub multipliers : length u.multipliers ≡ row_count expression positions members rest
    pub hold : AllHold (turn_rows expression positions members rest) u.t (u.coefficients ++ (u.offsets ++ (u.drops ++ u.multipliers)))

  abbrev pub AreTurns : List OwnCall → List Turn → Type 0
  AreTurns rest [] = Unit {0}
  AreTurns rest (u ∷ us) = IsTurn rest u × AreTurns (left rest u.drops) us

-- the mapping of a turn
abbrev pub mapping_by : (ℕ → ℕ) → List Position → List ℕ → Turn → Mapping
mapping_by arity positions members u = mapping_at arity positions members u.coefficients u.offsets

module _ (expression : ℕ → Tree → List ℤ) (view : List Rule) (arity : ℕ → ℕ) where
  abbrev pub positions : List Position
  positions = positions_by arity (members_of view)

  -- each number fits that the check of a mapping's drops forms at the calls that remain: where the drop is positive
  -- also those of the fall by 1
  abbrev pub FitsBy : Mapping → OwnCall → List ℤ → ℕ → Type 0
  FitsBy l o ms e =
      (row_fits (fall_over expression o.rule o.member o.call.args e l) ≡ true)
      × AllColumnsFit (rows_before expression o) ms (fall_over expression o.rule o.member o.call.args e l) (pos 1)

  abbrev pub falls_by : ℕ → ℕ
  falls_by zero = 0
  falls_by (suc d) = 1

  abbrev pub DropsFit : Mapping → List OwnCall → List ℕ → List ℕ → Type 0
  DropsFit l [] ds ms = Unit {0}
  DropsFit l (o ∷ os) [] ms = Unit {0}
  DropsFit l (o ∷ os) (d ∷ ds) ms =
      FitsBy l o (map pos (take (length (rows_before expression o)) ms)) (falls_by d) × DropsFit l os ds (drop (length (rows_before expression o)) ms)

  -- the targets of calls that are never reached fit too, which is asked of the first mapping alone
  abbrev pub EmptyFit : Mapping → Type 0
  EmptyFit l = AllByRecursion (λ (o : OwnCall). row_fits (fall_over expression o.rule o.member o.call.args 1 l) ≡ true) (own_calls view)

-- turns that leave no call give a list that descends
abbrev pub TurnsDescend : Type 0
TurnsDescend =
    (expression : ℕ → Tree → List ℤ) (view : List Rule) (positions : List Position) (members : List ℕ) (arity : ℕ → ℕ) (lives : List OwnCall) (us : List Turn)
    → HasWidths expression → AllByRecursion (HasFew arity) lives → AreLives expression view positions lives
    → AreTurns expression positions members lives us → remaining lives us ≡ [] → 1 ≤ length us
    → ListDescends expression view (map (mapping_by arity positions members) us)

-- each turn leaves fewer calls
abbrev pub TurnsLeaveFewer : Type 0
TurnsLeaveFewer =
    (expression : ℕ → Tree → List ℤ) (positions : List Position) (members : List ℕ) (arity : ℕ → ℕ) (rest : List OwnCall) (u : Turn)
    → HasWidths expression → AllByRecursion (HasFew arity) rest → IsTurn expression positions members rest u → length (left rest u.drops) < length rest
