-- Facts of rows of numbers, by computing.
use Rattle.std.proofs.Common.{◌≡◌, ℕ, zero, suc, ◌+◌, ◌<◌, ◌≤◌, ℤ, pos, Bool, true, false, ◌&&◌, not, inl, inr, ◌⊎◌, List, [], ◌∷◌, map, length, refl, subst, arith}
use Rattle.termination_model.proofs.ChainSieves.{sieved_in}
use Rattle.std.proofs.Common.{eqb-true}
use Rattle.std.specs.Prelude.{All, ◌≤ℤ◌, ◌↔◌, int_le, nat_eq}
use Rattle.std.proofs.lemmas.Int.{ints}
use Rattle.exact128.specs.Sums.{dot}
use Rattle.linear_rows.specs.Rows.{Holds, HoldsOn}
use Rattle.linear_rows.specs.Members.{In}
use Rattle.linear_rows.specs.Proves.{rest_number}
use Rattle.linear_rows.specs.Irredundant.{Fails}
use Rattle.linear_rows.proofs.Members.{to_All, from_All}
use Rattle.linear_rows.proofs.Soundness.{law_holds}
use Rattle.termination_model.specs.chains.ChainRows.{HasPoint, HasSublist}

le_true : (a b : ℤ) → int_le a b ≡ true → a ≤ℤ b
le_true a b e = omega (arith, ints)

le_false : (a b : ℤ) → int_le a b ≡ false → a ≤ℤ b → ⊥
le_false a b e h = omega (arith, ints)

both : (a b : Bool) → (a && b) ≡ true → (a ≡ true) × (b ≡ true)
both true b e = (refl, e)
both false b e = cc

not_true : (a : Bool) → not a ≡ true → a ≡ false
not_true false e = refl
not_true true e = cc

-- ---- points
abbrev holds_at : ℕ → List ℕ → List (List ℤ) → Bool
holds_at t w [] = true
holds_at t w (r ∷ rows) = int_le (pos 0) (dot r (pos t ∷ map pos w)) && holds_at t w rows

holds_in : (t : ℕ) (w : List ℕ) (rows : List (List ℤ)) → holds_at t w rows ≡ true → (r : List ℤ) → In r rows → Holds r t w
holds_in t w [] e r i = absurd i
holds_in t w (x ∷ rows) e r (inl is) = subst (λ (y : List ℤ). Holds y t w) is (le_true (pos 0) (dot x (pos t ∷ map pos w)) (both (int_le (pos 0) (dot x (pos t ∷ map pos w))) (holds_at t w rows) e).0)
holds_in t w (x ∷ rows) e r (inr i) = holds_in t w rows (both (int_le (pos 0) (dot x (pos t ∷ map pos w))) (holds_at t w rows) e).1 r i

pub point_by : (n : ℕ) (rows : List (List ℤ)) (w : List ℕ) → length w ≡ n → holds_at 1 w rows ≡ true → HasPoint n rows
point_by n rows w l e = record { t = 1; w = w; some = omega arith; long = l; hold = to_All (λ (r : List ℤ). Holds r 1 w) rows (holds_in 1 w rows e) }

pub fails_by : (n : ℕ) (rows : List (List ℤ)) (row : List ℤ) (w : List ℕ) → length w ≡ n → (holds_at 1 w rows && not (int_le (pos 0) (dot row (pos 1 ∷ map pos w)))) ≡ true → Fails n rows row
fails_by n rows row w l e =
    let b = both (holds_at 1 w rows) (not (int_le (pos 0) (dot row (pos 1 ∷ map pos w)))) e in
    record { t = 1; w = w; some = omega arith; long = l; hold = to_All (λ (r : List ℤ). Holds r 1 w) rows (holds_in 1 w rows b.0); fails = le_false (pos 0) (dot row (pos 1 ∷ map pos w)) (not_true (int_le (pos 0) (dot row (pos 1 ∷ map pos w))) b.1) }

-- ---- multipliers, with scale 1
abbrev proves_in : List (List ℤ) → List ℤ → List ℤ → ℕ → ℕ → Bool
proves_in rows ms row k zero = true
proves_in rows ms row k (suc n) = int_le (pos 0) (rest_number rows ms row (pos 1) k) && proves_in rows ms row (suc k) n

proves_at : (rows : List (List ℤ)) (ms row : List ℤ) (k n : ℕ) → proves_in rows ms row k n ≡ true → (j : ℕ) → k ≤ j → j < k + n → pos 0 ≤ℤ rest_number rows ms row (pos 1) j
proves_at rows ms row k zero e j a b = absurd (omega arith)
proves_at rows ms row k (suc n) e j a b =
    let two = both (int_le (pos 0) (rest_number rows ms row (pos 1) k)) (proves_in rows ms row (suc k) n) e in
    elim (same_or_more k j a) [
      | inl is ↦ subst (λ (i : ℕ). pos 0 ≤ℤ rest_number rows ms row (pos 1) i) is (le_true (pos 0) (rest_number rows ms row (pos 1) k) two.0)
      | inr lt ↦ proves_at rows ms row (suc k) n two.1 j lt (omega arith)
    ]
  where
    same_or_more : (k j : ℕ) → k ≤ j → (k ≡ j) ⊎ (suc k ≤ j)
    same_or_more k j a = search arith

abbrev naturals_in : List ℤ → Bool
naturals_in [] = true
naturals_in (m ∷ ms) = int_le (pos 0) m && naturals_in ms

naturals_all : (ms : List ℤ) → naturals_in ms ≡ true → All (λ m. pos 0 ≤ℤ m) ms
naturals_all [] e k d l = absurd (omega arith)
naturals_all (m ∷ ms) e zero d l = le_true (pos 0) m (both (int_le (pos 0) m) (naturals_in ms) e).0
naturals_all (m ∷ ms) e (suc k) d l = naturals_all ms (both (int_le (pos 0) m) (naturals_in ms) e).1 k d (omega arith)

pub proved_by : (rows : List (List ℤ)) (ms row : List ℤ) → (naturals_in ms && proves_in rows ms row 0 (length row)) ≡ true → HoldsOn (length row) rows row
proved_by rows ms row e =
    let two = both (naturals_in ms) (proves_in rows ms row 0 (length row)) e in
    law_holds rows ms row 0 (naturals_all ms two.0) (λ k l. proves_at rows ms row 0 (length row) two.1 k (omega arith) (omega arith))

-- each row of a list is proved
abbrev all_proved : ℕ → List (List ℤ) → List (List ℤ) → List (List ℤ) → Bool
all_proved n rows [] mss = true
all_proved n rows (r ∷ rs) [] = false
all_proved n rows (r ∷ rs) (ms ∷ mss) = (nat_eq (length r) n && (naturals_in ms && proves_in rows ms r 0 (length r))) && all_proved n rows rs mss

same_number : (a b : ℕ) → nat_eq a b ≡ true → a ≡ b
same_number a b e = eqb-true a b e

pub all_hold : (n : ℕ) (rows all mss : List (List ℤ)) → all_proved n rows all mss ≡ true → (r : List ℤ) → In r all → HoldsOn n rows r
all_hold n rows [] mss e r i = absurd i
all_hold n rows (x ∷ all) [] e r i = cc
all_hold n rows (x ∷ all) (ms ∷ mss) e r (inl is) =
    let two = both (nat_eq (length x) n && (naturals_in ms && proves_in rows ms x 0 (length x))) (all_proved n rows all mss) e in
    let one = both (nat_eq (length x) n) (naturals_in ms && proves_in rows ms x 0 (length x)) two.0 in
    subst (HoldsOn n rows) is (subst (λ (k : ℕ). HoldsOn k rows x) (same_number (length x) n one.0) (proved_by rows ms x one.1))
all_hold n rows (x ∷ all) (ms ∷ mss) e r (inr i) =
    all_hold n rows all mss (both (nat_eq (length x) n && (naturals_in ms && proves_in rows ms x 0 (length x))) (all_proved n rows all mss) e).1 r i

-- a part on which all rows hold has exactly these rows
pub part_same : (n : ℕ) (all rows : List (List ℤ)) → HasSublist all rows → ((r : List ℤ) → In r all → HoldsOn n rows r) → (r : List ℤ) → HoldsOn n rows r ↔ HoldsOn n all r
part_same n all rows part covers r = (there, back)
  where
    there : HoldsOn n rows r → HoldsOn n all r
    there h t w some long hold = h t w some long (to_All (λ (x : List ℤ). Holds x t w) rows (λ x i. from_All (λ (x : List ℤ). Holds x t w) all x hold (sieved_in (λ _. Unit {0}) (λ _. Unit {0}) all rows part x i)))

    back : HoldsOn n all r → HoldsOn n rows r
    back h t w some long hold = h t w some long (to_All (λ (x : List ℤ). Holds x t w) all (λ x i. covers x i t w some long hold))

-- ---- rows of naturals
abbrev naturals_of : List (List ℤ) → Bool
naturals_of [] = true
naturals_of (r ∷ rows) = naturals_in r && naturals_of rows

pub naturals_by : (rows : List (List ℤ)) → naturals_of rows ≡ true → All (λ (r : List ℤ). All (λ (x : ℤ). pos 0 ≤ℤ x) r) rows
naturals_by [] e k d l = absurd (omega arith)
naturals_by (r ∷ rows) e zero d l = naturals_all r (both (naturals_in r) (naturals_of rows) e).0
naturals_by (r ∷ rows) e (suc k) d l = naturals_by rows (both (naturals_in r) (naturals_of rows) e).1 k d (omega arith)

abbrev long_in : ℕ → List (List ℤ) → Bool
long_in n [] = true
long_in n (r ∷ rows) = nat_eq (length r) n && long_in n rows

pub long_by : (n : ℕ) (rows : List (List ℤ)) → long_in n rows ≡ true → All (λ (r : List ℤ). length r ≡ n) rows
long_by n [] e k d l = absurd (omega arith)
long_by n (r ∷ rows) e zero d l = same_number (length r) n (both (nat_eq (length r) n) (long_in n rows) e).0
long_by n (r ∷ rows) e (suc k) d l = long_by n rows (both (nat_eq (length r) n) (long_in n rows) e).1 k d (omega arith)
