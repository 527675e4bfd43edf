-- Rows that are true at each positive coefficient, by places.
use Rattle.std.proofs.Common.{◌≡◌, ℕ, zero, suc, ◌<◌, Bool, true, IsTrue, List, [], ◌∷◌, length, map, slice_get, Some, nat_lt, ltb-true, ap, sym, ◌∙◌, arith}
use Rattle.std.proofs.lemmas.Bool.Decides.{nat_tests}
use Rattle.bool_diagrams.specs.Cubes.{values_of}
use Rattle.termination_model.specs.sizes.Rows.{Covers}
use Rattle.truth_rows.proofs.RowLaws.{first_row, first_values, length-first}

pub positive_is : (a : ℕ) → 0 < a → nat_lt 0 a ≡ true
positive_is a lt = grind (arith, nat_tests)

pub covers_row : (coefficients : List ℕ) (row : List Bool) → ((j : ℕ) → j < length row → slice_get (map (nat_lt 0) coefficients) j ≡ Some true → IsTrue (values_of row j)) → Covers coefficients row
covers_row [] row h = tt
covers_row (a ∷ cs) [] h = tt
covers_row (a ∷ cs) (b ∷ row) h = (λ lt. h 0 (omega arith) (ap Some (positive_is a lt)), covers_row cs row (λ j lt e. h (suc j) (omega arith) e))

pub covered_at : (coefficients : List ℕ) (row : List Bool) → Covers coefficients row → (j : ℕ) → j < length row → slice_get (map (nat_lt 0) coefficients) j ≡ Some true → IsTrue (values_of row j)
covered_at [] row c j lt e = cc
covered_at (a ∷ cs) [] c j lt e = absurd (omega arith)
covered_at (a ∷ cs) (b ∷ row) c zero lt e = let t : nat_lt 0 a ≡ true = cc in c.0 (ltb-true 0 a t)
covered_at (a ∷ cs) (b ∷ row) c (suc j) lt e = covered_at cs row c.1 j (omega arith) e

module _ (set : (ℕ → Bool) → Bool) (positive : List Bool) (coefficients : List ℕ) (signs : map (nat_lt 0) coefficients ≡ positive) where
  pub covered_all : ((j : ℕ) → j < length positive → slice_get positive j ≡ Some true → (row : ℕ → Bool) → IsTrue (set row) → IsTrue (row j))
      → (row : List Bool) → length row ≡ length positive → IsTrue (set (values_of row)) → Covers coefficients row
  covered_all h row long t = covers_row coefficients row (λ j lt e. h j (omega arith) (ap (λ (xs : List Bool). slice_get xs j) (sym signs) ∙ e) (values_of row) t)

  pub covered_one : ((row other : ℕ → Bool) → ((v : ℕ) → v < length positive → row v ≡ other v) → set row ≡ set other)
      → ((row : List Bool) → length row ≡ length positive → IsTrue (set (values_of row)) → Covers coefficients row)
      → (j : ℕ) → j < length positive → slice_get positive j ≡ Some true → (row : ℕ → Bool) → IsTrue (set row) → IsTrue (row j)
  covered_one reads h j lt e row t =
      let n = length positive in
      let long = length-first n row in
      let same = reads (values_of (first_row n row)) row (λ v l. first_values n row v l) in
      let covers = h (first_row n row) long (same ∙ t) in
      sym (first_values n row j lt) ∙ covered_at coefficients (first_row n row) covers j (omega arith) (ap (λ (xs : List Bool). slice_get xs j) signs ∙ e)
