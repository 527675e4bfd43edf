-- Private.
-- The shapes of what is tested: how many numbers there are, and in which range they are.
use Rattle.std.specs.Prelude.{◌≡◌, ◌≤◌, ◌<◌, ◌≤ℤ◌, ℕ, pos, true, List, ◌∷◌, All, IfSome, length, slice_get, Some}
use Rattle.std.specs.List.{AllByRecursion}
use Rattle.linear_rows.specs.Plain.{HaveWidth}
use Rattle.linear_rows.specs.Replacing.{row_fits}
use Rattle.linear_rows.specs.Showing.{AreMultipliers}
use Rattle.linear_rows.specs.declared.multipliers.Multipliers.{Multipliers}
use Rattle.linear_rows.specs.declared.point.Point.{Point}
use Rattle.number_columns.specs.ColumnLists.{HaveLength, plain_columns}
use Rattle.number_tests.specs.declared.level_part.LevelPart.{LevelPart}
use Rattle.number_turns.specs.declared.transition.Transition.{Transition}
use Rattle.transitions.specs.Transitions.{Transition as Recalled}
use Rattle.transition_tests.specs.StuckGroups.{transition_at}
use Rattle.transition_tests.specs.declared.group.PlacedPoint.{PlacedPoint}
use Rattle.transition_tests.specs.declared.group.PointGroup.{PointGroup}

-- rows and columns have a number for each natural of the transition
pub record HasLengths (τ : Transition) : Type 0 where
  pub rows : HaveWidth τ.rows.width τ.rows.list
  pub head : HaveLength τ.rows.width (plain_columns τ.head.columns)
  pub call : HaveLength τ.rows.width (plain_columns τ.call.columns)

-- a number for each of n columns; these and the offset fit
pub record IsPartOf (n : ℕ) (part : LevelPart) : Type 0 where
  pub each : length part.coeffs ≡ n
  pub fit : row_fits (part.offset ∷ part.coeffs) ≡ true

-- parts of a list of measures at a transition, multipliers for the first of them, at least one, and for a floor
pub record CanDrop (τ : Transition) (heads calls : List LevelPart) (drops : List Multipliers) (floor : Multipliers) : Type 0 where
  pub head_parts : AllByRecursion (IsPartOf (length τ.head.columns)) heads
  pub call_parts : AllByRecursion (IsPartOf (length τ.call.columns)) calls
  pub some : 1 ≤ length drops
  pub few_heads : length drops ≤ length heads
  pub few_calls : length drops ≤ length calls
  pub multipliers : AllByRecursion (AreMultipliers (length τ.rows.list)) drops
  pub floor_multipliers : AreMultipliers (length τ.rows.list) floor

-- the numbers of a point are natural
pub record IsNaturalPoint (x : Point) : Type 0 where
  pub scale : pos 0 ≤ℤ x.t
  pub values : All (λ z. pos 0 ≤ℤ z) x.w

-- naturals for a point of the transition
pub record IsPointOf (τ : Recalled) (x : Point) : Type 0 where
  pub long : length x.w ≡ τ.vars
  pub naturals : IsNaturalPoint x

-- a point of a transition that is there
pub record IsPlaced (τs : List Recalled) (x : PlacedPoint) : Type 0 where
  pub there : x.place < length τs
  pub point : IsPointOf (transition_at τs x.place) x.point

-- the points of the group at place k are those of transitions, and its floor is a point of its own one
pub record IsGroupOf (τs : List Recalled) (k : ℕ) (g : PointGroup) : Type 0 where
  pub points : AllByRecursion (IsPlaced τs) g.points
  pub floor : IfSome g.floor (IsPointOf (transition_at τs k))

-- one for each transition
pub record AreGroups (τs : List Recalled) (gs : List PointGroup) : Type 0 where
  pub each : length gs ≡ length τs
  pub groups : (k : ℕ) (g : PointGroup) → slice_get gs k ≡ Some g → IsGroupOf τs k g
