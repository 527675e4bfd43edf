-- Private.
-- The system of a clause over columns, as far as it depends on columns, kinds and size rows.
--
-- To believe: all of this file, over `system` and `short_system` of termination_model. That the system of claims is
-- that of their columns, kinds and size rows is the law `systems_are_of_sizes`.
use Rattle.std.specs.Prelude.{ℕ, true, Bool, ℤ, List, [], Option}
use Rattle.cti_terms.specs.declared.atom_list.Atom.{Atom}
use Rattle.termination_model.specs.sizes.Sizes.{wide_rows}
use Rattle.termination_model.specs.columns.Columns.{Columns}
use Rattle.termination_model.specs.columns.ColumnClaims.{Claims, system}
use Rattle.termination_model.specs.columns.ColumnRows.{row_over, or_zeros}
use Rattle.termination_model.specs.columns.ColumnShort.{short_system}

-- claims of size rows alone
abbrev pub of_sizes : Columns → (ℕ → List ℕ) → (ℕ → List (List ℤ)) → Claims
of_sizes m kinds rows = record {
  columns = m;
  kinds = kinds;
  truth = λ v t. true;
  rank = λ q. 0;
  rows = rows;
  grounds = λ q bs. true;
  measures = λ r. [];
}

-- a row over columns over n numbers instead, and zeros where it needs a column that is not there
abbrev pub row_or_zeros : ℕ → List (Option (List ℤ)) → List ℤ → List ℤ
row_or_zeros n es r = or_zeros n (row_over n es r)

-- the size rows of atoms, where zeros stand for each row with a number that does not fit
abbrev pub short_rows : Columns → (ℕ → List ℕ) → (ℕ → List (List ℤ)) → ℕ → List Atom → List (List ℤ)
short_rows m kinds rows = short_system (of_sizes m kinds rows)

-- whether a row of them has a number that does not fit
abbrev pub has_wide_row : Columns → (ℕ → List ℕ) → (ℕ → List (List ℤ)) → ℕ → List Atom → Bool
has_wide_row m kinds rows vars atoms = wide_rows (system (of_sizes m kinds rows) vars atoms)
