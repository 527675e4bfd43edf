-- The first point of a transition among points.
use Rattle.std.proofs.Common.{◌≡◌, ◌∙◌, ℕ, ◌+◌, ◌≤◌, ◌==◌, ◌≤ℤ◌, pos, Bool, true, if◌then◌else◌, List, drop, length, slice_get, Some, ap, subst, arith, ne_eqb}
use Rattle.std.proofs.lemmas.Bool.Decides.{nat_tests}
use Rattle.std.proofs.lemmas.Int.{ints}
use Rattle.std.proofs.lemmas.List.{drop_all}
use Rattle.number_turns.proofs.RowLists.{drop_here}
use Rattle.transition_tests.specs.StuckGroups.{own_point}
use Rattle.transition_tests.specs.declared.group.PlacedPoint.{PlacedPoint}

pub equal_test : (a b : ℕ) → a ≡ b → (a == b) ≡ true
equal_test a b e = grind (arith, nat_tests)

-- where it is this one
pub own_here : (k : ℕ) (xs : List PlacedPoint) (i : ℕ) (x : PlacedPoint) → slice_get xs i ≡ Some x → x.place ≡ k → own_point k (drop i xs) ≡ x.point
own_here k xs i x e same =
    ap (own_point k) (drop_here xs i x e)
    ∙ ap (λ (b : Bool). if b then x.point else own_point k (drop (i + 1) xs)) (equal_test x.place k same)

-- where it is a later one
pub own_later : (k : ℕ) (xs : List PlacedPoint) (i : ℕ) (x : PlacedPoint) → slice_get xs i ≡ Some x → (x.place ≡ k → ⊥) → own_point k (drop i xs) ≡ own_point k (drop (i + 1) xs)
own_later k xs i x e other =
    ap (own_point k) (drop_here xs i x e)
    ∙ ap (λ (b : Bool). if b then x.point else own_point k (drop (i + 1) xs)) (ne_eqb x.place k other)

-- where there is none
pub own_none : (k : ℕ) (xs : List PlacedPoint) (i : ℕ) → length xs ≤ i → (pos 1 ≤ℤ (own_point k (drop i xs)).t) → ⊥
own_none k xs i le h =
    let h0 = subst (λ (ys : List PlacedPoint). pos 1 ≤ℤ (own_point k ys).t) (drop_all i xs le) h in
    absurd (omega (arith, ints, h0))
