-- Systems over the one column of a norm, and systems by columns, kinds and size rows.
use Rattle.std.proofs.Common.{◌≡◌, ◌∙◌, ℕ, zero, suc, ◌*◌, ◌++◌, ℤ, pos, Bool, true, false, if◌then◌else◌, List, [], ◌∷◌, map, replicate, Option, None, Some, refl, ap, sym, arith}
use Rattle.cti_terms.specs.Tree.{Tree}
use Rattle.cti_terms.specs.declared.atom_list.Atom.{Atom}
use Rattle.linear_rows.specs.Replacing.{substituted}
use Rattle.termination_model.specs.sizes.Systems.{row_over as norm_row, system as norm_system}
use Rattle.termination_model.specs.columns.ColumnClaims.{Claims, atom_row, numbers_of, system}
use Rattle.termination_model.specs.columns.ColumnRows.{lacks, or_empty, or_zeros, row_over}
use Rattle.termination_model.specs.columns.Columns.{columns_of}
use Rattle.number_columns.specs.ColumnSystems.{of_sizes}
use Rattle.number_columns.specs.Laws.{SystemsAreOfSizes, SystemsOfNorms}
use Rattle.number_columns.proofs.OverLaws.{over_there}

pub of_sizes_alone : SystemsAreOfSizes
of_sizes_alone c vars [] = refl
of_sizes_alone c vars (b ∷ bs) = ap (λ (s : List (List ℤ)). map (λ r. or_zeros (numbers_of c vars) (atom_row c vars b r)) (c.rows b.pred.0) ++ s) (of_sizes_alone c vars bs)

-- ---- norms

no_lack : (row : List ℤ) (xs : List (List ℤ)) → lacks row (map Some xs) ≡ false
no_lack [] xs = refl
no_lack (z ∷ zs) [] = refl
no_lack (z ∷ zs) (x ∷ xs) = no_lack zs xs

all_there : (xs : List (List ℤ)) → map or_empty (map Some xs) ≡ xs
all_there [] = refl
all_there (x ∷ xs) = ap (λ s. x ∷ s) (all_there xs)

module _ (expression : ℕ → Tree → List ℤ) (vars : ℕ) where
  abbrev column : Tree → ℕ → Option (List ℤ)
  column t j = Some (expression vars t)

  one_each : (ts : List Tree) → columns_of (map (λ _. 1) ts) (map column ts) ≡ map Some (map (expression vars) ts)
  one_each [] = refl
  one_each (t ∷ ts) = ap (λ s. Some (expression vars t) ∷ s) (one_each ts)

  row_is : (ts : List Tree) (row : List ℤ) → or_zeros vars (row_over vars (map Some (map (expression vars) ts)) row) ≡ norm_row expression vars ts row
  row_is ts [] = refl
  row_is ts (b ∷ row) =
      ap (or_zeros vars) (over_there vars (map Some (map (expression vars) ts)) b row (no_lack row (map (expression vars) ts)))
      ∙ ap (λ (es : List (List ℤ)). substituted vars es (b ∷ row)) (all_there (map (expression vars) ts))

  rows_are : (ts : List Tree) (rows : List (List ℤ)) → map (λ r. or_zeros vars (row_over vars (map Some (map (expression vars) ts)) r)) rows ≡ map (norm_row expression vars ts) rows
  rows_are ts [] = refl
  rows_are ts (r ∷ rows) = let here = row_is ts r in let rest = rows_are ts rows in λ i. here i ∷ rest i

pub of_norms : SystemsOfNorms
of_norms c size expression e vars [] h = refl
of_norms c size expression e vars (b ∷ bs) h =
    let width : vars * 1 ≡ vars = omega arith in
    let rows = c.rows b.pred.0 in
    let own : ℕ → List (Option (List ℤ)) → List (List ℤ) = λ (n : ℕ) (es : List (Option (List ℤ))). map (λ r. or_zeros n (row_over n es r)) rows in
    let first : own (vars * c.columns.width) (columns_of (c.kinds b.pred.0) (map (c.columns.expression vars) b.args)) ≡ own (vars * 1) (columns_of (map (λ _. 1) b.args) (map (column expression vars) b.args)) =
    λ i. own (vars * (e i).width) (columns_of (h.0 i) (map ((e i).expression vars) b.args)) in
    let second : own (vars * 1) (columns_of (map (λ _. 1) b.args) (map (column expression vars) b.args)) ≡ own vars (map Some (map (expression vars) b.args)) = λ i. own (width i) (one_each expression vars b.args i) in
    let here : own (vars * c.columns.width) (columns_of (c.kinds b.pred.0) (map (c.columns.expression vars) b.args)) ≡ map (norm_row expression vars b.args) rows = first ∙ second ∙ rows_are expression vars b.args rows in
    let rest = of_norms c size expression e vars bs h.1 in
    λ i. here i ++ rest i
