-- Private.
-- The systems of a program's clauses over columns: each argument has as many columns as its kind says.
--
-- To believe: `column_systems`, `AreNumbers`. That these systems are those of claims is the law
-- `systems_are_of_claims`.
use Rattle.std.specs.Prelude.{◌≡◌, ℕ, suc, ◌+◌, ◌*◌, ◌≤◌, ℤ, true, sum, List, [], ◌∷◌, length, Some}
use Rattle.std.specs.List.{AllByRecursion}
use Rattle.cti_terms.specs.Arithmetic.{kind_of}
use Rattle.cti_terms.specs.Listing.{Listing}
use Rattle.cti_terms.specs.declared.builtins.Builtin.{Builtin}
use Rattle.linear_rows.specs.Replacing.{row_fits}
use Rattle.number_columns.specs.ColumnLists.{HaveKinds, columns_over, counts_at, kinds_at}
use Rattle.number_columns.specs.ColumnSystems.{row_or_zeros}
use Rattle.number_columns.specs.declared.columns.TheConstants.{MOST_WIDTH}
use Rattle.number_columns.specs.declared.kind.Kind.{Kind}
use Rattle.number_columns.specs.declared.kind.Kind.TheVariants.{Number, Size}
use Rattle.size_chains.specs.Systems.{AreSystems, Systems}
use Rattle.termination_model.specs.columns.Columns.{Columns}

-- systems over columns, of which each argument of a predicate has as many as `kinds` says
abbrev pub column_systems : Columns → (ℕ → List ℕ) → Systems
column_systems m kinds = record {
  width = λ q. sum (kinds q);
  naturals = λ k. k.vars * m.width;
  over = λ k b r. row_or_zeros (k.vars * m.width) (columns_over m kinds k.vars b) r;
  heads = λ k. columns_over m kinds k.vars k.head;
  stated = m.stated;
}

-- both arguments of each built-in predicate are of kind `number`
abbrev pub AreNumbers : Listing → List (List Kind) → Type 0
AreNumbers p kinds = (q : ℕ) (b : Builtin) → kind_of p.arithmetic q ≡ Some b → kinds_at kinds q ≡ Number ∷ (Number ∷ [])

-- an argument of each kind has few columns, and the stated rows of built-in predicates are over theirs, and fit
pub record AreFew (m : Columns) (count : Kind → ℕ) : Type 0 where
  pub size : count Size ≤ MOST_WIDTH
  pub number : count Number ≤ MOST_WIDTH
  pub stated : (b : Builtin) → AllByRecursion (λ (r : List ℤ). (length r ≡ suc (count Number + count Number)) × (row_fits r ≡ true)) (m.stated b)

-- a program and columns that have systems, where an argument of each kind has so many columns
pub record HaveSystems (p : Listing) (m : Columns) (count : Kind → ℕ) (kinds : List (List Kind)) (size number : ℕ) : Type 0 where
  pub kinds_are : HaveKinds p.preds kinds
  pub numbers : AreNumbers p kinds
  pub size_is : size ≡ count Size
  pub number_is : number ≡ count Number
  pub size_few : size ≤ MOST_WIDTH
  pub number_few : number ≤ MOST_WIDTH
  pub systems : AreSystems p (column_systems m (counts_at count kinds))
