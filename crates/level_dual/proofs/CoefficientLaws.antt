-- Coefficients of a mapping by their numbers.
use Rattle.std.proofs.Common.{◌≡◌, ℕ, zero, suc, ℤ, Bool, true, false, if◌then◌else◌, List, [], ◌∷◌, ◌++◌, map, None, Some, refl, ap, sym, ◌∙◌}
use Rattle.std.specs.Prelude.{nat_lt, unsigned_abs}
use Rattle.exact128.specs.Sums.{entry}
use Rattle.number_tests.specs.declared.level_part.LevelPart.{LevelPart}
use Rattle.termination_model.specs.mappings.Coefficients.{coefficient}
use Rattle.termination_model.specs.claims.Claims.{Mapping as PlainMapping}
use Rattle.termination_model.specs.mappings.OwnCalls.{Position}
use Rattle.termination_model.specs.mappings.Supports.{support_from}
use Rattle.level_dual.specs.Large.{has_coefficient}
use Rattle.level_systems.specs.Mappings.{natural_coefficients, level_in}
use Rattle.level_systems.specs.declared.measure.Measure.{Measure}

coefficient_at : (zs : List ℤ) (i : ℕ) → coefficient (map unsigned_abs zs) i ≡ unsigned_abs (entry zs i)
coefficient_at [] i = refl
coefficient_at (z ∷ zs) zero = refl
coefficient_at (z ∷ zs) (suc i) = coefficient_at zs i

pub no_part : (ms : List Measure) (x : Position) → level_in ms x.0 ≡ None → has_coefficient ms x ≡ false
no_part ms x e = ap (λ o. nat_lt 0 (coefficient (natural_coefficients o) x.1)) e

pub coefficient_is : (ms : List Measure) (x : Position) (l : LevelPart) → level_in ms x.0 ≡ Some l → has_coefficient ms x ≡ nat_lt 0 (unsigned_abs (entry l.coeffs x.1))
coefficient_is ms x l e = ap (λ o. nat_lt 0 (coefficient (natural_coefficients o) x.1)) e ∙ ap (nat_lt 0) (coefficient_at l.coeffs x.1)

-- ---- the support, one position on
module _ (k : ℕ) (x : Position) (rest : List Position) (m : PlainMapping) (before : List ℕ) where
  abbrev has : Bool
  has = nat_lt 0 (coefficient (m.coefficients x.0) x.1)

  pub support_taken : has ≡ true → (before ++ k ∷ []) ++ support_from (suc k) rest m ≡ before ++ support_from k (x ∷ rest) m
  support_taken e = go before ∙ ap (λ (b : Bool). before ++ (if b then k ∷ support_from (suc k) rest m else support_from (suc k) rest m)) (sym e)
    where
      go : (xs : List ℕ) → (xs ++ k ∷ []) ++ support_from (suc k) rest m ≡ xs ++ k ∷ support_from (suc k) rest m
      go [] = refl
      go (y ∷ ys) = ap (λ s. y ∷ s) (go ys)

  pub support_skipped : has ≡ false → before ++ support_from (suc k) rest m ≡ before ++ support_from k (x ∷ rest) m
  support_skipped e = ap (λ (b : Bool). before ++ (if b then k ∷ support_from (suc k) rest m else support_from (suc k) rest m)) (sym e)
