-- Private.
-- Columns of terms as lists of rows.
--
-- A column of a term is a row over the numbers of a clause's variables, or nothing where the column has no expression
-- whose numbers all fit.
--
-- To believe: all of this file, over `columns` of termination_model.
use Rattle.std.specs.Prelude.{◌≡◌, ℕ, suc, Bool, true, false, ℤ, if◌then◌else◌, List, [], map, sum, length, slice_index_or, slice_get, Option, None, Some, option_map, All}
use Rattle.std.specs.List.{AllByRecursion}
use Rattle.cti_terms.specs.Tree.{Tree}
use Rattle.cti_terms.specs.declared.atom_list.Atom.{Atom}
use Rattle.cti_terms.specs.declared.builtins.Arith.{Arith}
use Rattle.cti_terms.specs.declared.predicates.Pred.{Pred}
use Rattle.linear_rows.specs.Plain.{plain_row, HaveWidth}
use Rattle.linear_rows.specs.Replacing.{row_fits}
use Rattle.linear_rows.specs.declared.row.Row.{Row}
use Rattle.linear_rows.specs.declared.row.Rows.{Rows}
use Rattle.termination_model.specs.columns.Columns.{Columns, columns_of}
use Rattle.termination_model.specs.columns.Expressions.{three_columns}
use Rattle.number_columns.specs.declared.kind.Kind.{Kind}
use Rattle.number_columns.specs.declared.kind.Kind.TheVariants.{Size, Number}
use Rattle.number_columns.specs.declared.rows_over.RowOver.{RowOver}
use Rattle.number_columns.specs.declared.rows_over.RowOver.TheVariants.{There, Missing, Wide}

-- the kinds of a predicate's arguments, by its number
abbrev pub kinds_at : List (List Kind) → ℕ → List Kind
kinds_at kinds q = slice_index_or kinds q []

-- how many columns each argument of a predicate has, where a kind has so many
abbrev pub counts_at : (Kind → ℕ) → List (List Kind) → ℕ → List ℕ
counts_at count kinds q = map count (kinds_at kinds q)

-- a kind for each argument of each predicate
pub record HaveKinds (preds : List Pred) (kinds : List (List Kind)) : Type 0 where
  pub each : length kinds ≡ length preds
  pub arity : (q : ℕ) (p : Pred) → slice_get preds q ≡ Some p → length (kinds_at kinds q) ≡ p.arity

-- size rows for each predicate, over the columns of its arguments
pub record AreColumnSizes (preds : List Pred) (counts : ℕ → List ℕ) (rows : List Rows) : Type 0 where
  pub each : length rows ≡ length preds
  pub width : (q : ℕ) (r : Rows) → slice_get rows q ≡ Some r → HaveWidth (sum (counts q)) r.list

-- an expression where each of its numbers fits
abbrev pub if_fits : Option (List ℤ) → Option (List ℤ)
if_fits None = None
if_fits (Some e) = if row_fits e then Some e else None

-- columns whose expressions are there only where all their numbers fit
abbrev pub fitting : Columns → Columns
fitting m = record {
  width = m.width;
  measure = m.measure;
  expression = λ vars t j. if_fits (m.expression vars t j);
  evaluated = m.evaluated;
  stated = m.stated;
}

-- the three columns as far as their numbers fit
abbrev pub value_columns : Option Arith → Columns
value_columns o = fitting (three_columns o)

-- an argument of kind `size` has one column, its size; one of kind `number` has three
abbrev pub value_count : Kind → ℕ
value_count Size = 1
value_count Number = 3

-- the numbers of a column, where it is there
abbrev pub plain_column : Option Row → Option (List ℤ)
plain_column column = option_map plain_row column

abbrev pub plain_columns : List (Option Row) → List (Option (List ℤ))
plain_columns columns = map plain_column columns

-- a column that is there has a constant and n numbers
abbrev pub HasLength : ℕ → Option (List ℤ) → Type 0
HasLength n None = Unit {0}
HasLength n (Some e) = length e ≡ suc n

abbrev pub HaveLength : ℕ → List (Option (List ℤ)) → Type 0
HaveLength n es = AllByRecursion (HasLength n) es

-- the columns of an atom's arguments, over the numbers of so many variables
abbrev pub columns_over : Columns → (ℕ → List ℕ) → ℕ → Atom → List (Option (List ℤ))
columns_over m counts vars a = columns_of (counts a.pred.0) (map (m.expression vars) a.args)

-- what a row over columns is over n numbers: a row whose numbers fit, or one of which a number does not, or none
abbrev pub IsRowOver : Option (List ℤ) → RowOver → Type 0
IsRowOver None (There row) = ⊥
IsRowOver None Missing = Unit {0}
IsRowOver None Wide = ⊥
IsRowOver (Some z) (There row) = (plain_row row ≡ z) × (row_fits z ≡ true)
IsRowOver (Some z) Missing = ⊥
IsRowOver (Some z) Wide = row_fits z ≡ false
