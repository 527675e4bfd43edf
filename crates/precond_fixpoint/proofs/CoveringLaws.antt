-- The rows that coefficients cover, by places.
use Rattle.std.proofs.Common.{◌≡◌, ◌↔◌, ℕ, ℤ, zero, suc, ◌+◌, ◌<◌, ◌≤◌, Bool, true, false, ◌&&◌, IsTrue, List, [], ◌∷◌, length, map, slice_get, Some, nat_lt, inl, inr, refl, ap, sym, ◌∙◌, arith}
use Rattle.std.proofs.lemmas.Bool.{cases_eq}
use Rattle.bool_diagrams.specs.Cubes.{values_of}
use Rattle.number_tests.specs.Levels.{is_positive, natural}
use Rattle.termination_model.specs.sizes.Rows.{Covers}
use Rattle.termination_model.proofs.Lists.{place_below}
use Rattle.truth_rows.proofs.RowLaws.{both, same_bool}
use Rattle.truth_rows.proofs.CoverLaws.{covers_row, covered_at}

-- a row is true at each positive place below a bound
abbrev pub TrueBelow : List Bool → ℕ → (ℕ → Bool) → Type 0
TrueBelow positive n row = (j : ℕ) → j < n → slice_get positive j ≡ Some true → IsTrue (row j)

pub left_of : (a b : Bool) → (a && b) ≡ true → a ≡ true
left_of true b h = refl
left_of false b h = cc

pub right_of : (a b : Bool) → (a && b) ≡ true → b ≡ true
right_of true b h = h
right_of false b h = cc

module _ (positive : List Bool) (n : ℕ) (row : ℕ → Bool) where
  -- a place that is positive
  pub next_place : slice_get positive n ≡ Some true → (old new : Bool) → IsTrue old ↔ TrueBelow positive n row → new ≡ (old && row n) → IsTrue new ↔ TrueBelow positive (n + 1) row
  next_place at old new is e = (
    λ t j lt p. elim (cases_eq j n) [
      | inl same ↦ ap row same ∙ right_of old (row n) (sym e ∙ t)
      | inr other ↦ is.0 (left_of old (row n) (sym e ∙ t)) j (omega arith) p
    ],
    λ below. e ∙ both old (row n) (is.1 (λ j lt p. below j (omega arith) p)) (below n (omega arith) at),
  )

  -- a place that is not
  pub skip_place : slice_get positive n ≡ Some false → (old : Bool) → IsTrue old ↔ TrueBelow positive n row → IsTrue old ↔ TrueBelow positive (n + 1) row
  skip_place at old is = (
    λ t j lt p. elim (cases_eq j n) [
      | inl same ↦ let q : slice_get positive n ≡ Some true = ap (slice_get positive) (sym same) ∙ p in cc
      | inr other ↦ is.0 t j (omega arith) p
    ],
    λ below. is.1 (λ j lt p. below j (omega arith) p),
  )

-- all places
pub all_places : (positive : List Bool) (n : ℕ) → length positive ≤ n → (row : ℕ → Bool) (t : Bool) → IsTrue t ↔ TrueBelow positive n row → IsTrue t ↔ TrueBelow positive (length positive) row
all_places positive n le row t is = (
  λ h j lt p. is.0 h j (omega arith) p,
  λ below. is.1 (λ j lt p. below j (place_below positive j true p) p),
)

module _ (set : (ℕ → Bool) → Bool) (positive : List Bool) (is : (row : ℕ → Bool) → IsTrue (set row) ↔ TrueBelow positive (length positive) row) where
  pub reads_places : (row other : ℕ → Bool) → ((v : ℕ) → v < length positive → row v ≡ other v) → set row ≡ set other
  reads_places row other agree =
      same_bool (set row) (set other) (λ t. (is other).1 (λ j lt p. sym (agree j lt) ∙ (is row).0 t j lt p)) (λ t. (is row).1 (λ j lt p. agree j lt ∙ (is other).0 t j lt p))

  pub covers_places : (coefficients : List ℕ) → map (nat_lt 0) coefficients ≡ positive → (row : List Bool) → length row ≡ length positive → IsTrue (set (values_of row)) ↔ Covers coefficients row
  covers_places coefficients signs row long = (
    λ t. covers_row coefficients row (λ j lt p. (is (values_of row)).0 t j (omega arith) (ap (λ (xs : List Bool). slice_get xs j) (sym signs) ∙ p)),
    λ c. (is (values_of row)).1 (λ j lt p. covered_at coefficients row c j (omega arith) (ap (λ (xs : List Bool). slice_get xs j) signs ∙ p)),
  )

-- the signs of coefficients
pub natural_signs : (xs : List ℤ) → map (nat_lt 0) (map natural xs) ≡ map is_positive xs
natural_signs [] = refl
natural_signs (x ∷ xs) = let rest = natural_signs xs in λ i. is_positive x ∷ rest i

pub sign_at : (xs : List ℤ) (n : ℕ) (x : ℤ) → slice_get xs n ≡ Some x → slice_get (map is_positive xs) n ≡ Some (is_positive x)
sign_at [] n x at = cc
sign_at (y ∷ xs) zero x at = let same : y ≡ x = cc in ap (λ (z : ℤ). Some (is_positive z)) same
sign_at (y ∷ xs) (suc n) x at = sign_at xs n x at
