-- Groups as the code holds them are groups of transitions' stuck sets.
use Rattle.std.proofs.Common.{◌≡◌, ◌∙◌, ℕ, zero, suc, ◌+◌, ◌==◌, ◌≤ℤ◌, ℤ, pos, ◌+ℤ◌, ◌-ℤ◌, Bool, true, false, if◌then◌else◌, List, [], ◌∷◌, map, length, slice_get, Option, None, Some, IfSome, refl, ap, sym, subst, arith, eqb-true}
use Rattle.std.specs.List.{AllByRecursion}
use Rattle.std.proofs.lemmas.Int.{ints}
use Rattle.std.proofs.lemmas.List.Elements.{All-from_recursion}
use Rattle.exact128.specs.Sums.{dot}
use Rattle.linear_rows.specs.Rows.{AllHold, Holds}
use Rattle.linear_rows.specs.declared.point.Point.{Point as HeldPoint}
use Rattle.number_tests.specs.Levels.{natural}
use Rattle.number_tests.specs.Refuting.{ValueFits, numbers_of}
use Rattle.number_tests.specs.SystemPoints.{ValueHolds}
use Rattle.transitions.specs.StuckSets.{Feature, Group, IsAt, IsFloor, Point, gain, gains, group_sum}
use Rattle.transitions.specs.Transitions.{Transition}
use Rattle.transition_tests.specs.Shape.{IsNaturalPoint, IsPointOf}
use Rattle.transition_tests.specs.StuckGroups.{RowsFit, call_of, floor_at, group_at, groups_from, head_of, other_points, own_point, placed_at, point_at, total, transition_at}
use Rattle.transition_tests.specs.Testing.{AllHoldAt, heads_total}
use Rattle.transition_tests.specs.declared.group.PlacedPoint.{PlacedPoint}
use Rattle.transition_tests.specs.declared.group.PointGroup.{PointGroup}
use Rattle.transition_tests.proofs.Shares.{numbers_are}

-- ---- rows at held points
natural_long : (zs : List ℤ) → length (map natural zs) ≡ length zs
natural_long [] = refl
natural_long (z ∷ zs) = ap suc (natural_long zs)

holds_to : (τ : Transition) (x : HeldPoint) (rows : List (List ℤ)) → IsNaturalPoint x → AllByRecursion (ValueHolds x) rows → AllByRecursion (ValueFits x) rows × AllByRecursion (λ row. Holds row (natural x.t) (map natural x.w)) rows
holds_to τ x [] n h = (tt, tt)
holds_to τ x (r ∷ rows) n h =
    let rest = holds_to τ x rows n h.1 in
    let here : pos 0 ≤ℤ dot r (pos (natural x.t) ∷ map pos (map natural x.w)) = subst (λ (ps : List ℤ). pos 0 ≤ℤ dot r ps) (sym (numbers_are x n)) h.0.1 in
    ((h.0.0, rest.0), (here, rest.1))

to_holds : (τ : Transition) (x : HeldPoint) (rows : List (List ℤ)) → IsNaturalPoint x → AllByRecursion (ValueFits x) rows → AllHold rows (natural x.t) (map natural x.w) → AllByRecursion (ValueHolds x) rows
to_holds τ x [] n f h = tt
to_holds τ x (r ∷ rows) n f h =
    let here : pos 0 ≤ℤ dot r (numbers_of x) = subst (λ (ps : List ℤ). pos 0 ≤ℤ dot r ps) (numbers_are x n) (h 0 r (omega arith)) in
    ((f.0, here), to_holds τ x rows n f.1 (λ k d lt. h (suc k) d (omega (arith, lt))))

-- the rows hold at a held point where they do at its numbers, and fit
pub at_from : (τ : Transition) (x : HeldPoint) → IsPointOf τ x → AllHoldAt τ x → RowsFit τ x × IsAt τ (natural x.t) (map natural x.w)
at_from τ x p h =
    let both = holds_to τ x τ.rows p.naturals h in
    (both.0, (natural_long x.w ∙ p.long, All-from_recursion (λ row. Holds row (natural x.t) (map natural x.w)) τ.rows both.1))

pub at_to : (τ : Transition) (x : HeldPoint) → IsPointOf τ x → RowsFit τ x → IsAt τ (natural x.t) (map natural x.w) → AllHoldAt τ x
at_to τ x p f h = to_holds τ x τ.rows p.naturals f h.1

pub floor_from : (τ : Transition) (o : Option HeldPoint) → IfSome o (IsPointOf τ) → IfSome o (AllHoldAt τ) → IfSome o (RowsFit τ) × IsFloor τ (floor_at o)
floor_from τ None p h = (tt, tt)
floor_from τ (Some x) p h = at_from τ x p h

pub floor_to : (τ : Transition) (o : Option HeldPoint) → IfSome o (IsPointOf τ) → IfSome o (RowsFit τ) → IsFloor τ (floor_at o) → IfSome o (AllHoldAt τ)
floor_to τ None p f h = tt
floor_to τ (Some x) p f h = at_to τ x p f h

-- ---- the point of the own transition
module _ (τs : List Transition) (k : ℕ) where
  -- a fact of all points is one of the own point and of the others
  pub own_has : (Q : ℕ → HeldPoint → Type 0) (xs : List PlacedPoint) → (pos 1 ≤ℤ (own_point k xs).t) → AllByRecursion (λ (x : PlacedPoint). Q x.place x.point) xs → Q k (own_point k xs)
  own_has Q [] some all = absurd (omega (arith, ints, some))
  own_has Q (x ∷ xs) some all = go (x.place == k) refl some (own_has Q xs)
    where
      go : (b : Bool) → (x.place == k) ≡ b → (pos 1 ≤ℤ (if b then x.point else own_point k xs).t)
          → ((pos 1 ≤ℤ (own_point k xs).t) → AllByRecursion (λ (y : PlacedPoint). Q y.place y.point) xs → Q k (own_point k xs)) → Q k (if b then x.point else own_point k xs)
      go true e h rest = subst (λ (n : ℕ). Q n x.point) (eqb-true x.place k e) all.0
      go false e h rest = rest h all.1

  pub others_have : (Q : PlacedPoint → Type 0) (xs : List PlacedPoint) → AllByRecursion Q xs → AllByRecursion Q (other_points k xs)
  others_have Q [] all = tt
  others_have Q (x ∷ xs) all = go (x.place == k) (others_have Q xs all.1)
    where
      go : (b : Bool) → AllByRecursion Q (other_points k xs) → AllByRecursion Q (if b then xs else x ∷ other_points k xs)
      go true rest = all.1
      go false rest = (all.0, rest)

  pub all_have : (Q : ℕ → HeldPoint → Type 0) (xs : List PlacedPoint) → Q k (own_point k xs) → AllByRecursion (λ (x : PlacedPoint). Q x.place x.point) (other_points k xs) → AllByRecursion (λ (x : PlacedPoint). Q x.place x.point) xs
  all_have Q [] own others = tt
  all_have Q (x ∷ xs) own others = go (x.place == k) refl own others (all_have Q xs)
    where
      go : (b : Bool) → (x.place == k) ≡ b → Q k (if b then x.point else own_point k xs) → AllByRecursion (λ (y : PlacedPoint). Q y.place y.point) (if b then xs else x ∷ other_points k xs)
          → (Q k (own_point k xs) → AllByRecursion (λ (y : PlacedPoint). Q y.place y.point) (other_points k xs) → AllByRecursion (λ (y : PlacedPoint). Q y.place y.point) xs)
          → Q x.place x.point × AllByRecursion (λ (y : PlacedPoint). Q y.place y.point) xs
      go true e own others rest = (subst (λ (n : ℕ). Q n x.point) (sym (eqb-true x.place k e)) own, others)
      go false e own others rest = (others.0, rest own others.1)

  -- the sums of all points
  pub own_gains : (f : Feature) (xs : List PlacedPoint) → (pos 1 ≤ℤ (own_point k xs).t) → gains f (point_at (transition_at τs k) (own_point k xs) ∷ map (placed_at τs) (other_points k xs)) ≡ gains f (map (placed_at τs) xs)
  own_gains f [] some = absurd (omega (arith, ints, some))
  own_gains f (x ∷ xs) some = go (x.place == k) refl some (own_gains f xs)
    where
      go : (b : Bool) → (x.place == k) ≡ b → (pos 1 ≤ℤ (if b then x.point else own_point k xs).t)
          → ((pos 1 ≤ℤ (own_point k xs).t) → gains f (point_at (transition_at τs k) (own_point k xs) ∷ map (placed_at τs) (other_points k xs)) ≡ gains f (map (placed_at τs) xs))
          → gains f (point_at (transition_at τs k) (if b then x.point else own_point k xs) ∷ map (placed_at τs) (if b then xs else x ∷ other_points k xs)) ≡ gains f (placed_at τs x ∷ map (placed_at τs) xs)
      go true e h rest = ap (λ (n : ℕ). gains f (point_at (transition_at τs n) x.point ∷ map (placed_at τs) xs)) (sym (eqb-true x.place k e))
      go false e h rest =
          let same = rest h in
          let a = gain f (point_at (transition_at τs k) (own_point k xs)) in
          let b = gain f (placed_at τs x) in
          let c = gains f (map (placed_at τs) (other_points k xs)) in
          let swapped : a +ℤ (b +ℤ c) ≡ b +ℤ (a +ℤ c) = omega (arith, ints) in
          swapped ∙ ap (λ z. b +ℤ z) same

pub gains_are : (f : Feature) (ps : List Point) → gains f ps ≡ total head_of f ps -ℤ total call_of f ps
gains_are f [] = refl
gains_are f (p ∷ ps) = let rest = gains_are f ps in omega (arith, ints, rest)

-- what is balanced
pub sum_is : (τs : List Transition) (k : ℕ) (g : PointGroup) (f : Feature) → (pos 1 ≤ℤ (own_point k g.points).t)
    → group_sum (group_at τs k g) f ≡ heads_total τs k g f -ℤ total call_of f (map (placed_at τs) g.points)
sum_is τs k g f some =
    let a = own_gains τs k f g.points some in
    let b = gains_are f (map (placed_at τs) g.points) in
    omega (arith, ints, a, b)

-- ---- lists of groups
pub groups_long : (τs : List Transition) (k : ℕ) (gs : List PointGroup) → length (groups_from τs k gs) ≡ length gs
groups_long τs k [] = refl
groups_long τs k (g ∷ gs) = ap suc (groups_long τs (suc k) gs)

pub group_there : (τs : List Transition) (k : ℕ) (gs : List PointGroup) (i : ℕ) (g : PointGroup) → slice_get gs i ≡ Some g → slice_get (groups_from τs k gs) i ≡ Some (group_at τs (k + i) g)
group_there τs k [] i g e = cc
group_there τs k (h ∷ gs) zero g e =
    let same : h ≡ g = cc in
    let here : k ≡ k + 0 = omega arith in
    λ j. Some (group_at τs (here j) (same j))
group_there τs k (h ∷ gs) (suc i) g e =
    let rest = group_there τs (suc k) gs i g e in
    let place : suc k + i ≡ k + suc i = omega arith in
    rest ∙ ap (λ n. Some (group_at τs n g)) place

pub from_group : (τs : List Transition) (k : ℕ) (gs : List PointGroup) (i : ℕ) (h : Group) → slice_get (groups_from τs k gs) i ≡ Some h → (g : PointGroup) × (slice_get gs i ≡ Some g) × (h ≡ group_at τs (k + i) g)
from_group τs k [] i h e = cc
from_group τs k (g ∷ gs) zero h e =
    let same : group_at τs k g ≡ h = cc in
    let here : k ≡ k + 0 = omega arith in
    (g, refl, sym same ∙ ap (λ n. group_at τs n g) here)
from_group τs k (g ∷ gs) (suc i) h e =
    let rest = from_group τs (suc k) gs i h e in
    let place : suc k + i ≡ k + suc i = omega arith in
    (rest.0, rest.1, rest.2 ∙ ap (λ n. group_at τs n rest.0) place)
