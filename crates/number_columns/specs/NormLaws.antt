-- Private.
-- A norm has one column for each argument, and keeps the laws of columns. Nothing here has to be believed.
use Rattle.std.specs.Prelude.{◌≡◌, ℕ, suc, ◌*◌, Bool, ℤ, List, Option, Some, length}
use Rattle.std.proofs.Common.{ap, sym, subst, ◌∙◌, arith}
use Rattle.cti_terms.specs.Tree.{Tree}
use Rattle.cti_terms.specs.declared.builtins.Arith.{Arith}
use Rattle.term_size.specs.Norm.{IsNorm}
use Rattle.termination_model.specs.columns.Columns.{AreColumns}
use Rattle.termination_model.specs.columns.NormColumns.{norm_columns}
use Rattle.termination_model.proofs.NormColumns.{are_columns}
use Rattle.number_columns.specs.declared.kind.Kind.{Kind}

-- one column, whatever the kind
abbrev pub one_column : Kind → ℕ
one_column k = 1

-- a norm measures the terms of programs with any operations
abbrev pub AnyOperations : Option Arith → Type 0
AnyOperations o = Unit {0}

module _ (size : (ℕ → ℕ) → Tree → ℕ) (truth : (ℕ → Bool) → Tree → Bool) (expression : ℕ → Tree → List ℤ) (norm : IsNorm size truth expression) where
  pub norm_laws : (o : Option Arith) → AnyOperations o → AreColumns o truth (norm_columns size expression)
  norm_laws o u = are_columns o size truth expression norm

  pub norm_lengths : (vars : ℕ) (t : Tree) (j : ℕ) (e : List ℤ) → Some (expression vars t) ≡ Some e → length e ≡ suc (vars * 1)
  norm_lengths vars t j e q =
      let same : expression vars t ≡ e = cc in
      ap length (sym same) ∙ norm.width vars t ∙ omega arith
