-- Private.
-- The tests, as the code makes them. Nothing here has to be believed.
use Rattle.std.specs.Prelude.{◌≡◌, ◌≤ℤ◌, ℕ, ℤ, pos, ◌+ℤ◌, Bool, true, false, ◌⊎◌, List, ◌∷◌, ◌++◌, map, slice_get, Option, Some, IfSome}
use Rattle.std.specs.List.{AllByRecursion}
use Rattle.linear_rows.specs.declared.point.Point.{Point as HeldPoint}
use Rattle.number_columns.specs.ColumnLists.{plain_columns}
use Rattle.number_tests.specs.SystemPoints.{ValueHolds}
use Rattle.number_turns.specs.declared.transition.Transition.{Transition as Held}
use Rattle.termination_model.specs.claims.Claims.{SomeOf}
use Rattle.transitions.specs.StuckSets.{Feature, Lacks, floor_share}
use Rattle.transitions.specs.Transitions.{Transition}
use Rattle.transitions.specs.Turns.{unit_row}
use Rattle.transition_tests.specs.StuckGroups.{AtomAt, SumsFit, call_of, floor_at, head_of, own_point, placed_at, total, transition_at}
use Rattle.transition_tests.specs.declared.group.PlacedPoint.{PlacedPoint}
use Rattle.transition_tests.specs.declared.group.PointGroup.{PointGroup}

-- the columns of the head, the number 1, and the columns of the call
abbrev pub joined_at : Held → List (Option (List ℤ))
joined_at τ = plain_columns τ.head.columns ++ (Some (unit_row τ.rows.width) ∷ plain_columns τ.call.columns)

-- the rows of a transition hold at a point, and each number fits that their values form
abbrev pub AllHoldAt : Transition → HeldPoint → Type 0
AllHoldAt τ x = AllByRecursion (ValueHolds x) τ.rows

abbrev pub PlacedHolds : List Transition → PlacedPoint → Type 0
PlacedHolds τs x = AllHoldAt (transition_at τs x.place) x.point

-- the group at place k has a point of its own transition, and the rows hold at its points
pub record GroupHolds (τs : List Transition) (k : ℕ) (g : PointGroup) : Type 0 where
  pub own : pos 1 ≤ℤ (own_point k g.points).t
  pub points : AllByRecursion (PlacedHolds τs) g.points
  pub floor : IfSome g.floor (AllHoldAt (transition_at τs k))

-- the heads of transitions, or their calls
abbrev pub atoms : Bool → AtomAt
atoms true = head_of
atoms false = call_of

-- what the heads count of a number in a group, with the floor
abbrev pub heads_total : List Transition → ℕ → PointGroup → Feature → ℤ
heads_total τs k g f = total head_of f (map (placed_at τs) g.points) +ℤ floor_share (transition_at τs k) (floor_at g.floor) f

-- the sums of the group at place k fit, and are balanced for a number of a mapping
pub record IsBalanced (τs : List Transition) (f : Feature) (k : ℕ) (g : PointGroup) : Type 0 where
  pub fit : SumsFit τs k g f
  pub same : heads_total τs k g f ≡ total call_of f (map (placed_at τs) g.points)

-- a fact of each group at its place
abbrev pub AtEach : (ℕ → PointGroup → Type 0) → List PointGroup → Type 0
AtEach P gs = (k : ℕ) (g : PointGroup) → slice_get gs k ≡ Some g → P k g

-- some transition lacks the number, or the sums of each group are balanced for it
abbrev pub AreBalanced : List Transition → List PointGroup → Feature → Type 0
AreBalanced τs gs f = SomeOf (λ (τ : Transition). Lacks τ f) τs ⊎ AtEach (IsBalanced τs f) gs
