-- Where the equation of a step stands, and the rows at other places.
use Rattle.std.proofs.Common.{◌≡◌, ℕ, zero, suc, ℤ, List, [], ◌∷◌, ◌+◌, ◌<◌, Bool, true, false, cond, ◌||◌, Some, length, get_or, nat_eq, refl, subst, ap, arith, inl, inr, ◌⊎◌}
use Rattle.std.specs.Prelude.{◌&&◌}
use Rattle.std.specs.List.{list_any}
use Rattle.exact128.specs.Sums.{entry}
use Rattle.linear_rows.specs.Elimination.{is_positive}
use Rattle.linear_rows.specs.Equation.{negates, place_of, equation_from, other_places}
use Rattle.linear_rows.specs.Members.{In}
use Rattle.exact128.proofs.FitsLemmas.{both}

pub record Found {X : Type 0} (p : X → Bool) (xs : List X) (d : X) (i : ℕ) : Type 0 where
  pub within : i < length xs
  pub passes : p (get_or xs i d) ≡ true

pub place_is : {X : Type 0} (p : X → Bool) (xs : List X) (d : X) → list_any p xs ≡ true → Found p xs d (place_of p xs)
place_is p [] d e = cc
place_is {X} p (x ∷ xs) d e = look (p x) refl e (place_is p xs d)
  where
    look : (b : Bool) → p x ≡ b → (b || list_any p xs) ≡ true → (list_any p xs ≡ true → Found p xs d (place_of p xs)) → Found p (x ∷ xs) d (cond b 0 (suc (place_of p xs)))
    look true is e next = record { within = omega arith; passes = is }
    look false is e next = let f = next e in record { within = let l = f.within in omega arith; passes = f.passes }

-- the equation: both rows are there
pub record IsEquation (n k : ℕ) (rows : List (List ℤ)) (i j : ℕ) : Type 0 where
  pub i_within : i < length rows
  pub j_within : j < length rows
  pub rises : is_positive (entry (get_or rows i []) k) ≡ true
  pub opposite : negates n (get_or rows i []) (get_or rows j []) ≡ true

-- the same of a list's tail
record IsFrom (n k : ℕ) (all : List (List ℤ)) (place : ℕ) (rs : List (List ℤ)) (i j : ℕ) : Type 0 where
  off : ℕ
  is : i ≡ place + off
  i_within : off < length rs
  j_within : j < length all
  rises : is_positive (entry (get_or rs off []) k) ≡ true
  opposite : negates n (get_or rs off []) (get_or all j []) ≡ true

equation_is_from : (n k : ℕ) (all : List (List ℤ)) (place : ℕ) (rs : List (List ℤ)) (i j : ℕ) → equation_from n k all place rs ≡ Some (i, j) → IsFrom n k all place rs i j
equation_is_from n k all place [] i j e = cc
equation_is_from n k all place (r ∷ rs) i j e = look (is_positive (entry r k) && list_any (λ s. negates n r s) all) refl e (equation_is_from n k all (suc place) rs i j)
  where
    look : (b : Bool) → (is_positive (entry r k) && list_any (λ s. negates n r s) all) ≡ b → cond b (Some (place, place_of (λ s. negates n r s) all)) (equation_from n k all (suc place) rs) ≡ Some (i, j) →
        (equation_from n k all (suc place) rs ≡ Some (i, j) → IsFrom n k all (suc place) rs i j) → IsFrom n k all place (r ∷ rs) i j
    look true is e next =
        let two = both (is_positive (entry r k)) (list_any (λ s. negates n r s) all) is in
        let f = place_is (λ s. negates n r s) all [] two.1 in
        let pair : (place, place_of (λ s. negates n r s) all) ≡ (i, j) = cc in
        let ei : place ≡ i = ap (λ (p : ℕ × ℕ). p.0) pair in
        let ej : place_of (λ s. negates n r s) all ≡ j = ap (λ (p : ℕ × ℕ). p.1) pair in
        record {
          off = 0;
          is = omega arith;
          i_within = omega arith;
          j_within = rw ej at f.within;
          rises = two.0;
          opposite = subst (λ j. negates n r (get_or all j []) ≡ true) ej f.passes;
        }
    look false is e next =
        let f = next e in
        record {
          off = suc f.off;
          is = let l = f.is in omega arith;
          i_within = let l = f.i_within in omega arith;
          j_within = f.j_within;
          rises = f.rises;
          opposite = f.opposite;
        }

pub equation_is : (n k : ℕ) (rows : List (List ℤ)) (i j : ℕ) → equation_from n k rows 0 rows ≡ Some (i, j) → IsEquation n k rows i j
equation_is n k rows i j e =
    let f = equation_is_from n k rows 0 rows i j e in
    let same : f.off ≡ i = omega arith in
    record {
      i_within = rw same at f.i_within;
      j_within = f.j_within;
      rises = subst (λ i. is_positive (entry (get_or rows i []) k) ≡ true) same f.rises;
      opposite = subst (λ i. negates n (get_or rows i []) (get_or rows j []) ≡ true) same f.opposite;
    }

pub in-at : {X : Type 0} (xs : List X) (i : ℕ) (d : X) → i < length xs → In (get_or xs i d) xs
in-at [] i d h = absurd (omega arith)
in-at (x ∷ xs) zero d h = inl refl
in-at (x ∷ xs) (suc i) d h = inr (in-at xs i d (omega arith))

-- a row at another place is one of the rows
pub of-others : (place i j : ℕ) (rows : List (List ℤ)) (q : List ℤ) → In q (other_places place i j rows) → In q rows
of-others place i j [] q h = h
of-others place i j (r ∷ rs) q h = look (nat_eq place i || nat_eq place j) h (of-others (suc place) i j rs q)
  where
    look : (b : Bool) → In q (cond b (other_places (suc place) i j rs) (r ∷ other_places (suc place) i j rs)) → (In q (other_places (suc place) i j rs) → In q rs) → In q (r ∷ rs)
    look true h next = inr (next h)
    look false (inl is) next = inl is
    look false (inr h) next = inr (next h)

record At (place i : ℕ) (rs : List (List ℤ)) (q : List ℤ) : Type 0 where
  off : ℕ
  is : i ≡ place + off
  row : get_or rs off [] ≡ q

later : (place i : ℕ) (r : List ℤ) (rs : List (List ℤ)) (q : List ℤ) → At (suc place) i rs q → At place i (r ∷ rs) q
later place i r rs q a = record { off = suc a.off; is = let l = a.is in omega arith; row = a.row }

either_true : (a b : Bool) → (a || b) ≡ true → (a ≡ true) ⊎ (b ≡ true)
either_true true b e = inl refl
either_true false b e = inr e

in-others_from : (place i j : ℕ) (rs : List (List ℤ)) (q : List ℤ) → In q rs → At place i rs q ⊎ (At place j rs q ⊎ In q (other_places place i j rs))
in-others_from place i j [] q h = absurd h
in-others_from place i j (r ∷ rs) q (inl is) = look (nat_eq place i || nat_eq place j) refl
  where
    look : (b : Bool) → (nat_eq place i || nat_eq place j) ≡ b → At place i (r ∷ rs) q ⊎ (At place j (r ∷ rs) q ⊎ In q (cond b (other_places (suc place) i j rs) (r ∷ other_places (suc place) i j rs)))
    look true e = elim (either_true (nat_eq place i) (nat_eq place j) e) [
      | inl x ↦ inl (record { off = 0; is = grind arith; row = is })
      | inr y ↦ inr (inl (record { off = 0; is = grind arith; row = is }))
    ]
    look false e = inr (inr (inl is))
in-others_from place i j (r ∷ rs) q (inr h) = elim (in-others_from (suc place) i j rs q h) [
  | inl a ↦ inl (later place i r rs q a)
  | inr o ↦ elim o [
    | inl a ↦ inr (inl (later place j r rs q a))
    | inr m ↦ inr (inr (in-more (nat_eq place i || nat_eq place j) m))
  ]
]
  where
    in-more : (b : Bool) → In q (other_places (suc place) i j rs) → In q (cond b (other_places (suc place) i j rs) (r ∷ other_places (suc place) i j rs))
    in-more true m = m
    in-more false m = inr m

-- a row stands at place i, or at place j, or at another one
pub in-others : (i j : ℕ) (rows : List (List ℤ)) (q : List ℤ) → In q rows → (get_or rows i [] ≡ q) ⊎ ((get_or rows j [] ≡ q) ⊎ In q (other_places 0 i j rows))
in-others i j rows q h = elim (in-others_from 0 i j rows q h) [
  | inl a ↦ inl (let e : i ≡ a.off = let l = a.is in omega arith in rw e a.row)
  | inr o ↦ elim o [
    | inl a ↦ inr (inl (let e : j ≡ a.off = let l = a.is in omega arith in rw e a.row))
    | inr m ↦ inr (inr m)
  ]
]
