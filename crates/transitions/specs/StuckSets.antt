-- Private.
-- To believe, for the modes by measures of numbers.
-- Stuck sets: transitions that exclude each list of mappings.
--
-- A stuck set has a group for each of its transitions. A group has a point of its transition, perhaps points of others
-- of the set, and perhaps a floor, a point of its transition's head alone. At the points the rows of their transitions
-- hold, and for each number of a mapping the heads' values, less the calls' values, and the head's value at the floor
-- sum to 0. So no mapping that rises nowhere in the set can be at least 0 on the head of the group's transition and
-- fall there.
--
-- To believe: `IsStuckAt`, `IsWithin`.
use Rattle.std.specs.Prelude.{◌≡◌, ◌==◌, ℕ, zero, suc, ◌≤◌, ℤ, pos, ◌+ℤ◌, ◌-ℤ◌, Bool, true, false, if◌then◌else◌, ◌⊎◌, List, [], ◌∷◌, map, length, slice_get, Option, None, Some}
use Rattle.std.specs.List.{AllByRecursion}
use Rattle.exact128.specs.Sums.{dot, entry}
use Rattle.linear_rows.specs.Members.{In}
use Rattle.linear_rows.specs.Rows.{AllHold}
use Rattle.termination_model.specs.claims.Claims.{SomeOf}
use Rattle.termination_model.specs.columns.ColumnRows.{or_empty}
use Rattle.termination_model.specs.columns.ColumnClaims.{Mapping}
use Rattle.transitions.specs.Transitions.{Transition, Descends}

-- a number of a mapping: of a member the offset, which is number 0, or that of a column, counted from 1
abbrev pub Feature : Type 0
Feature = ℕ × ℕ

abbrev pub number_of : Mapping → Feature → ℤ
number_of l f = entry (l.offset f.0 ∷ l.coefficients f.0) f.1

-- by what these numbers are multiplied at t and w: t for the offset, and each column's value, 0 where it has none
abbrev pub values_at : List (Option (List ℤ)) → ℕ → List ℕ → List ℤ
values_at es t w = pos t ∷ map (λ e. dot e (pos t ∷ map pos w)) (map or_empty es)

-- by what a number is multiplied in the level of an atom of member q
abbrev pub share : ℕ → List (Option (List ℤ)) → ℕ → List ℕ → Feature → ℤ
share q es t w f = if q == f.0 then entry (values_at es t w) f.1 else pos 0

-- a transition with naturals for its variables
pub record Point : Type 0 where
  pub of : Transition
  pub t : ℕ
  pub w : List ℕ

abbrev pub head_share : Transition → ℕ → List ℕ → Feature → ℤ
head_share τ t w f = share τ.head τ.head_columns t w f

abbrev pub gain : Feature → Point → ℤ
gain f p = head_share p.of p.t p.w f -ℤ share p.of.call p.of.call_columns p.t p.w f

pub record Group : Type 0 where
  pub first : Point
  pub others : List Point
  pub floor : Option (ℕ × List ℕ)

abbrev pub gains : Feature → List Point → ℤ
gains f [] = pos 0
gains f (p ∷ ps) = gain f p +ℤ gains f ps

abbrev pub floor_share : Transition → Option (ℕ × List ℕ) → Feature → ℤ
floor_share τ None f = pos 0
floor_share τ (Some p) f = head_share τ p.0 p.1 f

abbrev pub group_sum : Group → Feature → ℤ
group_sum g f = gains f (g.first ∷ g.others) +ℤ floor_share g.first.of g.floor f

-- the rows of a transition hold at t and w
abbrev pub IsAt : Transition → ℕ → List ℕ → Type 0
IsAt τ t w = (length w ≡ τ.vars) × AllHold τ.rows t w

abbrev pub IsFloor : Transition → Option (ℕ × List ℕ) → Type 0
IsFloor τ None = Unit {0}
IsFloor τ (Some p) = IsAt τ p.0 p.1

-- the transition has no expression for the column of a number
abbrev pub LacksAt : ℕ → List (Option (List ℤ)) → Feature → Type 0
LacksAt q es (p, zero) = ⊥
LacksAt q es (p, suc i) = (q ≡ p) × (slice_get es i ≡ Some None)

abbrev pub Lacks : Transition → Feature → Type 0
Lacks τ f = LacksAt τ.head τ.head_columns f ⊎ LacksAt τ.call τ.call_columns f

-- the rows of a transition hold somewhere
abbrev pub HasPoint : Transition → Type 0
HasPoint τ = (t : ℕ) × (w : List ℕ) × (1 ≤ t) × IsAt τ t w

-- a group for its transition, over the numbers that the test picks
pub record IsGroup (test : Feature → Bool) (gs : List Group) (g : Group) : Type 0 where
  pub some : 1 ≤ g.first.t
  pub here : IsAt g.first.of g.first.t g.first.w
  pub others : AllByRecursion (λ (p : Point). IsAt p.of p.t p.w × SomeOf (λ (h : Group). h.first.of ≡ p.of) gs) g.others
  pub floor : IsFloor g.first.of g.floor
  pub balanced : (f : Feature) → test f ≡ true → SomeOf (λ (h : Group). Lacks h.first.of f) gs ⊎ (group_sum g f ≡ pos 0)

pub record IsStuckAt (test : Feature → Bool) (τs : List Transition) (gs : List Group) : Type 0 where
  pub some : 1 ≤ length gs
  pub of : AllByRecursion (λ (g : Group). In g.first.of τs) gs
  pub groups : AllByRecursion (IsGroup test gs) gs

-- a mapping is 0 at each number that the test does not pick
abbrev pub IsWithin : (Feature → Bool) → Mapping → Type 0
IsWithin test l = (f : Feature) → test f ≡ false → number_of l f ≡ pos 0

-- where a stuck set stands, no list descends whose numbers are among those
abbrev pub NoneDescends : Type 0
NoneDescends = (test : Feature → Bool) (τs : List Transition) (gs : List Group) (ls : List Mapping)
    → IsStuckAt test τs gs → AllByRecursion (IsWithin test) ls → Descends τs ls → ⊥
