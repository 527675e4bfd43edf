-- The point that a valuation is, of the first variables.
use Rattle.std.proofs.Common.{◌≡◌, ℕ, zero, suc, ℤ, pos, Bool, List, [], ◌∷◌, map, length, IsTrue, refl, sym, ◌∙◌, arith}
use Rattle.std.proofs.lemmas.Int.{ints}
use Rattle.exact128.specs.Sums.{dot}
use Rattle.cti_terms.specs.Tree.{Tree, is_below}
use Rattle.term_size.specs.Norm.{IsNorm, weighted, value_of}

-- s at the n variables from k on
abbrev pub values_from : ℕ → ℕ → (ℕ → ℕ) → List ℕ
values_from k zero s = []
values_from k (suc n) s = s k ∷ values_from (suc k) n s

abbrev pub values : ℕ → (ℕ → ℕ) → List ℕ
values = values_from 0

weighted_dot : (k n : ℕ) (s : ℕ → ℕ) (row : List ℤ) → length row ≡ n → weighted s k row ≡ dot row (map pos (values_from k n s))
unfolding dot
weighted_dot k n s [] e = refl
weighted_dot k zero s (c ∷ row) e = absurd (omega arith)
weighted_dot k (suc n) s (c ∷ row) e = omega (arith, ints, weighted_dot (suc k) n s row (omega arith))

-- the value of a row is its value at the point of the valuation
pub value_dot : (n : ℕ) (s : ℕ → ℕ) (row : List ℤ) → length row ≡ suc n → value_of row s ≡ dot row (pos 1 ∷ map pos (values n s))
unfolding dot
value_dot n s [] e = absurd (omega arith)
value_dot n s (b ∷ row) e = omega (arith, ints, weighted_dot 0 n s row (omega arith))

-- the law of expressions, over points
pub expression_value : (size : (ℕ → ℕ) → Tree → ℕ) (truth : (ℕ → Bool) → Tree → Bool) (expression : ℕ → Tree → List ℤ) → IsNorm size truth expression
    → (n : ℕ) (s : ℕ → ℕ) (t : Tree) → IsTrue (is_below n t) → dot (expression n t) (pos 1 ∷ map pos (values n s)) ≡ pos (size s t)
expression_value size truth expression norm n s t h = sym (value_dot n s (expression n t) (norm.width n t)) ∙ norm.value n s t h
