-- Rows with one row less.
use Rattle.std.proofs.Common.{◌≡◌, ℕ, zero, suc, ◌<◌, ◌≤◌, ℤ, ◌⊎◌, inl, inr, List, [], ◌∷◌, ◌++◌, take, drop, length, refl, ap, sym, subst, arith}
use Rattle.std.specs.Prelude.{slice_index_or}
use Rattle.linear_rows.specs.Members.{In}
use Rattle.linear_rows.specs.Rows.{Holds, AllHold, HoldsOn}
use Rattle.linear_rows.specs.Irredundant.{without_place, IsIrredundant}
use Rattle.linear_rows.proofs.Members.{from_All, to_All}
use Rattle.termination_model.specs.chains.ChainRows.{HasSublist}
use Rattle.redundant_rows.specs.Choosing.{IsCore}
use Rattle.redundant_rows.specs.Sweeping.{IsNeeded, IsSwept, IsLess}
use Rattle.std.specs.Prelude.{slice_get}
use Rattle.std.proofs.Common.{Some}
use Rattle.std.proofs.lemmas.List.{length-map}
use Rattle.linear_rows.specs.Plain.{plain_row, plain_rows}
use Rattle.linear_rows.specs.declared.row.Row.{Row}

-- ---- sublists
pub part_self : (xs : List (List ℤ)) → HasSublist xs xs
part_self [] = refl
part_self (x ∷ xs) = inl (tt, xs, refl, part_self xs)

pub part_nil : (xs : List (List ℤ)) → HasSublist xs []
part_nil [] = refl
part_nil (x ∷ xs) = inr (tt, part_nil xs)

pub part_trans : (xs ys zs : List (List ℤ)) → HasSublist xs ys → HasSublist ys zs → HasSublist xs zs
part_trans [] ys zs h k = subst (λ (l : List (List ℤ)). HasSublist l zs) h k
part_trans (x ∷ xs) ys zs (inr (u, h)) k = inr (tt, part_trans xs ys zs h k)
part_trans (x ∷ xs) ys zs (inl (u, ws, e, h)) k = go (subst (λ (l : List (List ℤ)). HasSublist l zs) e k) (λ vs. part_trans xs ws vs h)
  where
    go : HasSublist (x ∷ ws) zs → ((vs : List (List ℤ)) → HasSublist ws vs → HasSublist xs vs) → HasSublist (x ∷ xs) zs
    go (inl (v, us, f, m)) rec = inl (tt, us, f, rec us m)
    go (inr (v, m)) rec = inr (tt, rec zs m)

pub part_in : (xs ys : List (List ℤ)) → HasSublist xs ys → (x : List ℤ) → In x ys → In x xs
part_in [] ys s x i = subst (In x) s i
part_in (y ∷ xs) ys (inl (p, zs, e, s)) x i = elim (subst (In x) e i) [ inl is ↦ inl is | inr j ↦ inr (part_in xs zs s x j) ]
part_in (y ∷ xs) ys (inr (q, s)) x i = inr (part_in xs ys s x i)

without_part : (i : ℕ) (xs : List (List ℤ)) → HasSublist xs (without_place i xs)
without_part zero [] = refl
without_part (suc i) [] = refl
without_part zero (x ∷ xs) = inr (tt, part_self xs)
without_part (suc i) (x ∷ xs) = inl (tt, without_place i xs, refl, without_part i xs)

-- each row is the one at the place or one of the others
without_or : (i : ℕ) (xs : List (List ℤ)) (x : List ℤ) → i < length xs → In x xs → (slice_index_or xs i [] ≡ x) ⊎ In x (without_place i xs)
without_or i [] x l h = absurd h
without_or zero (y ∷ xs) x l (inl is) = inl is
without_or zero (y ∷ xs) x l (inr h) = inr h
without_or (suc i) (y ∷ xs) x l (inl is) = inr (inl is)
without_or (suc i) (y ∷ xs) x l (inr h) = elim (without_or i xs x (omega arith) h) [ inl is ↦ inl is | inr j ↦ inr (inr j) ]

pub length_without : (i : ℕ) (xs : List (List ℤ)) → i < length xs → suc (length (without_place i xs)) ≡ length xs
length_without i [] l = absurd (omega arith)
length_without zero (x ∷ xs) l = refl
length_without (suc i) (x ∷ xs) l = ap suc (length_without i xs (omega arith))

-- ---- rows that hold on fewer rows
pub less_self : (n : ℕ) (all : List (List ℤ)) → IsLess n all all
less_self n all = record { part = part_self all; covers = λ r i t w some long hold. from_All (λ (row : List ℤ). Holds row t w) all r hold i }

pub less_one : (n : ℕ) (all rows : List (List ℤ)) (i : ℕ) → i < length rows → HoldsOn (suc n) (without_place i rows) (slice_index_or rows i []) → IsLess n all rows → IsLess n all (without_place i rows)
less_one n all rows i l holds less = record {
  part = part_trans all rows (without_place i rows) less.part (without_part i rows);
  covers = λ r j t w some long hold.
      let Here : List ℤ → Type 0 = λ row. Holds row t w in
      let whole : AllHold rows t w = to_All Here rows (λ x k. elim (without_or i rows x l k) [ inl is ↦ subst Here is (holds t w some long hold) | inr m ↦ from_All Here (without_place i rows) x hold m ]) in
      less.covers r j t w some long whole;
}

-- ---- a sweep that finds nothing
pub swept_more : (n : ℕ) (rows : List (List ℤ)) (place : ℕ) → IsSwept n rows place → IsNeeded n rows place → IsSwept n rows (suc place)
swept_more n rows place h needed i l m = go (less_or_same i place l)
  where
    less_or_same : (i k : ℕ) → i < suc k → (i < k) ⊎ (i ≡ k)
    less_or_same i k l = search arith

    go : (i < place) ⊎ (i ≡ place) → IsNeeded n rows i
    go (inl lt) = h i lt m
    go (inr is) = subst (IsNeeded n rows) (sym is) needed

pub swept_all : (n : ℕ) (rows : List (List ℤ)) (place : ℕ) → length rows ≤ place → IsSwept n rows place → IsIrredundant n rows
swept_all n rows place l h i m = h i (omega arith) m

-- ---- lists of rows, and their plain lists
pub plain_without : (i : ℕ) (rows : List Row) → plain_rows (take i rows ++ drop (suc i) rows) ≡ without_place i (plain_rows rows)
plain_without zero [] = refl
plain_without (suc i) [] = refl
plain_without zero (r ∷ rows) = refl
plain_without (suc i) (r ∷ rows) = ap (λ l. plain_row r ∷ l) (plain_without i rows)

pub plain_at : (i : ℕ) (rows : List Row) (r : Row) → slice_get rows i ≡ Some r → slice_index_or (plain_rows rows) i [] ≡ plain_row r
plain_at i [] r e = cc
plain_at zero (x ∷ rows) r e = let same : x ≡ r = cc in ap plain_row same
plain_at (suc i) (x ∷ rows) r e = plain_at i rows r e

-- a row that is put back where it was
pub put_back : (i : ℕ) (rows : List Row) (r : Row) → slice_get rows i ≡ Some r → take i (take i rows ++ drop (suc i) rows) ++ r ∷ drop i (take i rows ++ drop (suc i) rows) ≡ rows
put_back i [] r e = cc
put_back zero (x ∷ rows) r e = let same : x ≡ r = cc in λ j. sym same j ∷ rows
put_back (suc i) (x ∷ rows) r e = ap (λ l. x ∷ l) (put_back i rows r e)

-- ---- fewer rows
pub fewer_rows : (i : ℕ) (rows new : List Row) → i < length rows → plain_rows new ≡ without_place i (plain_rows rows) → suc (length new) ≡ length rows
fewer_rows i rows new l e =
    let a = length-map rows plain_row in
    let b = length-map new plain_row in
    let d : length (plain_rows new) ≡ length (without_place i (plain_rows rows)) = ap length e in
    let f = length_without i (plain_rows rows) (omega (arith, l, a)) in
    omega (arith, a, b, d, f)

pub less_out : (n : ℕ) (all : List (List ℤ)) (rows new : List Row) (i : ℕ) → i < length rows → plain_rows new ≡ without_place i (plain_rows rows) → HoldsOn (suc n) (without_place i (plain_rows rows)) (slice_index_or (plain_rows rows) i [])
    → IsLess n all (plain_rows rows) → IsLess n all (plain_rows new)
less_out n all rows new i l e holds less =
    let a = length-map rows plain_row in
    subst (IsLess n all) (sym e) (less_one n all (plain_rows rows) i (omega (arith, l, a)) holds less)

pub less_trans : (n : ℕ) (all rows new : List (List ℤ)) → IsLess n all rows → IsLess n rows new → IsLess n all new
less_trans n all rows new a b = record {
  part = part_trans all rows new a.part b.part;
  covers = λ r i t w some long hold. a.covers r i t w some long (to_All (λ (row : List ℤ). Holds row t w) rows (λ x j. b.covers x j t w some long hold));
}

pub core_of_less : (n : ℕ) (all some rows : List (List ℤ)) → IsLess n all some → IsCore n some rows → IsCore n all rows
core_of_less n all some rows less core =
    let both = less_trans n all some rows less (record { part = core.part; covers = core.covers }) in
    record { part = both.part; covers = both.covers; irredundant = core.irredundant }
