-- Private.
-- To believe, for the modes by measures of numbers.
-- Stuck sets as the code holds them: for each transition of a set a group of points.
--
-- The group of the transition at a place has points, which name their transitions by place, and perhaps a floor. The
-- first point of its own transition is the group's first one. At the points and floors the rows hold, and in each
-- group the sums are balanced for each number of a mapping that is given and that no transition of the set lacks.
--
-- Each number that is formed is to fit. A value at a point is formed as the constant times t, to which the products of
-- the other numbers with w are added in their order. For each number of a mapping the heads' values are summed in the
-- order of the points, and then the head's value at the floor is added; and the calls' values are summed apart.
--
-- To believe: all of this file.
use Rattle.std.specs.Prelude.{◌≡◌, ◌==◌, ℕ, zero, suc, ℤ, pos, ◌+ℤ◌, Bool, if◌then◌else◌, ◌⊎◌, List, [], ◌∷◌, map, take, slice_get, slice_index_or, Option, None, Some, IfSome}
use Rattle.std.specs.List.{AllByRecursion, list_any}
use Rattle.exact128.specs.Fits.{Fits}
use Rattle.linear_rows.specs.Members.{In}
use Rattle.linear_rows.specs.declared.point.Point.{Point as HeldPoint}
use Rattle.number_tests.specs.Levels.{natural}
use Rattle.number_tests.specs.Refuting.{ValueFits}
use Rattle.termination_model.specs.claims.Claims.{SomeOf}
use Rattle.transitions.specs.StuckSets.{Feature, Group, IsStuckAt, Lacks, Point, floor_share, share}
use Rattle.transitions.specs.Transitions.{Transition}
use Rattle.transitions.specs.Turns.{is_same}
use Rattle.transition_tests.specs.declared.group.PlacedPoint.{PlacedPoint}
use Rattle.transition_tests.specs.declared.group.PointGroup.{PointGroup}

-- ---- groups
-- a number of a mapping is among these
abbrev pub picks : List Feature → Feature → Bool
picks fs f = list_any (is_same f) fs

-- the transition at a place
abbrev pub transition_at : List Transition → ℕ → Transition
transition_at τs k = slice_index_or τs k (record { vars = 0; rows = []; head = 0; head_columns = []; call = 0; call_columns = [] })

abbrev pub point_at : Transition → HeldPoint → Point
point_at τ x = record { of = τ; t = natural x.t; w = map natural x.w }

abbrev pub placed_at : List Transition → PlacedPoint → Point
placed_at τs x = point_at (transition_at τs x.place) x.point

-- the first point of the transition at place k; one with t = 0 where there is none
abbrev pub own_point : ℕ → List PlacedPoint → HeldPoint
own_point k [] = record { t = pos 0; w = [] }
own_point k (x ∷ xs) = if x.place == k then x.point else own_point k xs

-- the points without that one
abbrev pub other_points : ℕ → List PlacedPoint → List PlacedPoint
other_points k [] = []
other_points k (x ∷ xs) = if x.place == k then xs else x ∷ other_points k xs

abbrev pub floor_at : Option HeldPoint → Option (ℕ × List ℕ)
floor_at None = None
floor_at (Some x) = Some (natural x.t, map natural x.w)

-- the group of the transition at place k
abbrev pub group_at : List Transition → ℕ → PointGroup → Group
group_at τs k g = record {
  first = point_at (transition_at τs k) (own_point k g.points);
  others = map (placed_at τs) (other_points k g.points);
  floor = floor_at g.floor;
}

-- the groups of the transitions from place k on
abbrev pub groups_from : List Transition → ℕ → List PointGroup → List Group
groups_from τs k [] = []
groups_from τs k (g ∷ gs) = group_at τs k g ∷ groups_from τs (suc k) gs

-- ---- numbers that fit
-- an atom of a transition: its member and its columns
abbrev pub AtomAt : Type 0
AtomAt = Transition → ℕ × List (Option (List ℤ))

abbrev pub head_of : AtomAt
head_of τ = (τ.head, τ.head_columns)

abbrev pub call_of : AtomAt
call_of τ = (τ.call, τ.call_columns)

-- by what a number of a mapping is multiplied in the level of an atom at a point
abbrev pub share_at : AtomAt → Feature → Point → ℤ
share_at a f p = share (a p.of).0 (a p.of).1 p.t p.w f

-- the same at all points together
abbrev pub total : AtomAt → Feature → List Point → ℤ
total a f [] = pos 0
total a f (p ∷ ps) = share_at a f p +ℤ total a f ps

-- each number fits that is formed for the value of a column, where it is there and has a row
abbrev pub ColumnFits : HeldPoint → Option (Option (List ℤ)) → Type 0
ColumnFits x None = Unit {0}
ColumnFits x (Some None) = Unit {0}
ColumnFits x (Some (Some e)) = ValueFits x e

-- the same for what a number of a mapping is multiplied by
abbrev pub ShareFits : ℕ → List (Option (List ℤ)) → HeldPoint → Feature → Type 0
ShareFits q es x (p, zero) = Unit {0}
ShareFits q es x (p, suc i) = q ≡ p → ColumnFits x (slice_get es i)

-- these values at points fit, and the sums of the first ones
pub record TotalFits (τs : List Transition) (a : AtomAt) (f : Feature) (xs : List PlacedPoint) : Type 0 where
  pub values : AllByRecursion (λ (x : PlacedPoint). ShareFits (a (transition_at τs x.place)).0 (a (transition_at τs x.place)).1 x.point f) xs
  pub sums : (n : ℕ) → Fits (total a f (take n (map (placed_at τs) xs)))

-- each number fits that is formed for a number of a mapping in the group at place k
pub record SumsFit (τs : List Transition) (k : ℕ) (g : PointGroup) (f : Feature) : Type 0 where
  pub heads : TotalFits τs head_of f g.points
  pub calls : TotalFits τs call_of f g.points
  pub floor_fits : IfSome g.floor (λ x. ShareFits (transition_at τs k).head (transition_at τs k).head_columns x f)
  pub sum_fits : Fits (total head_of f (map (placed_at τs) g.points) +ℤ floor_share (transition_at τs k) (floor_at g.floor) f)

-- each number fits that the values of a transition's rows form at a point
abbrev pub RowsFit : Transition → HeldPoint → Type 0
RowsFit τ x = AllByRecursion (ValueFits x) τ.rows

pub record NumbersFit (fs : List Feature) (τs : List Transition) (k : ℕ) (g : PointGroup) : Type 0 where
  pub points : AllByRecursion (λ (x : PlacedPoint). RowsFit (transition_at τs x.place) x.point) g.points
  pub floor_fits : IfSome g.floor (RowsFit (transition_at τs k))
  pub sums : (f : Feature) → In f fs → SomeOf (λ (τ : Transition). Lacks τ f) τs ⊎ SumsFit τs k g f

-- the groups, one for each transition, are a stuck set for these numbers of mappings
pub record IsStuckSet (fs : List Feature) (τs : List Transition) (gs : List PointGroup) : Type 0 where
  pub stuck : IsStuckAt (picks fs) τs (groups_from τs 0 gs)
  pub fit : (k : ℕ) (g : PointGroup) → slice_get gs k ≡ Some g → NumbersFit fs τs k g
