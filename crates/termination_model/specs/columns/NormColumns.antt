-- Private.
-- A norm as the case of one column for each argument.
--
-- To believe: `norm_columns`.
use Rattle.std.specs.Prelude.{ℕ, Bool, ℤ, List, [], ◌∷◌, Option, Some}
use Rattle.cti_terms.specs.Tree.{Tree}
use Rattle.cti_terms.specs.declared.builtins.Arith.{Arith}
use Rattle.term_size.specs.Norm.{IsNorm}
use Rattle.termination_model.specs.sizes.Stated.{stated_rows}
use Rattle.termination_model.specs.columns.Columns.{Columns, AreColumns}

abbrev pub norm_columns : ((ℕ → ℕ) → Tree → ℕ) → (ℕ → Tree → List ℤ) → Columns
norm_columns size expression = record {
  width = 1;
  measure = λ s t j. size (λ x. s x 0) t;
  expression = λ vars t j. Some (expression vars t);
  evaluated = 1 ∷ (1 ∷ []);
  stated = stated_rows;
}

abbrev pub NormsAreColumns : Type 0
NormsAreColumns = (o : Option Arith) (size : (ℕ → ℕ) → Tree → ℕ) (truth : (ℕ → Bool) → Tree → Bool) (expression : ℕ → Tree → List ℤ)
    → IsNorm size truth expression → AreColumns o truth (norm_columns size expression)
