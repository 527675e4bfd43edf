-- Private.
-- The laws of systems over columns. Nothing here has to be believed.
use Rattle.std.specs.Prelude.{◌≡◌, ℕ, ℤ, Bool, List, [], ◌∷◌, Option, Some}
use Rattle.std.specs.List.{AllByRecursion}
use Rattle.call_components.specs.Partition.{Partition}
use Rattle.cti_terms.specs.Arithmetic.{kind_of}
use Rattle.cti_terms.specs.Listing.{Listing, IsProgram}
use Rattle.cti_terms.specs.Tree.{Tree}
use Rattle.cti_terms.specs.declared.atom_list.Atom.{Atom}
use Rattle.cti_terms.specs.declared.builtins.Arith.{Arith}
use Rattle.cti_terms.specs.declared.builtins.Builtin.{Builtin}
use Rattle.cti_terms.specs.declared.clauses.Clause.{Clause}
use Rattle.cti_terms.specs.declared.predicates.Pred.{Pred}
use Rattle.linear_rows.specs.Plain.{plain_rows}
use Rattle.linear_rows.specs.declared.multipliers.Multipliers.{Multipliers}
use Rattle.linear_rows.specs.declared.row.Rows.{Rows}
use Rattle.number_columns.specs.ColumnLists.{AreColumnSizes, counts_at, value_columns, value_count}
use Rattle.number_columns.specs.NormLaws.{one_column}
use Rattle.number_columns.specs.Numeric.{AreKinds}
use Rattle.number_columns.specs.declared.kind.Kind.{Kind}
use Rattle.number_columns.specs.declared.kind.Kind.TheVariants.{Number}
use Rattle.size_chains.specs.Chains.{IsLegalChain}
use Rattle.size_chains.specs.Making.{IsClauseSystem}
use Rattle.size_chains.specs.Proved.{AreProved, IsProved}
use Rattle.size_chains.specs.Systems.{AreSizes, system}
use Rattle.size_chains.specs.declared.clause_system.ClauseSystem.{ClauseSystem}
use Rattle.termination_model.specs.chains.ChainSteps.{Step}
use Rattle.termination_model.specs.columns.ColumnClaims.{AreStated, Claims, system as claimed_system}
use Rattle.termination_model.specs.columns.ColumnShort.{SizesProved, short_system}
use Rattle.termination_model.specs.columns.Columns.{AreColumns, Columns}
use Rattle.termination_model.specs.columns.NormColumns.{norm_columns}
use Rattle.column_systems.specs.ColumnSystems.{AreFew, AreNumbers, column_systems}

-- the systems of atoms are those of claims
abbrev pub SystemsAreOfClaims : Type 0
SystemsAreOfClaims = (c : Claims) (k : Clause) (bs : List Atom) → system (column_systems c.columns c.kinds) c.rows k bs ≡ claimed_system c k.vars bs

-- and the rows that are made of a clause are the short system of its body
abbrev pub RowsAreShort : Type 0
RowsAreShort = (c : Claims) (k : Clause) (x : ClauseSystem) → IsClauseSystem (column_systems c.columns c.kinds) c.rows k x → plain_rows x.rows.list ≡ short_system c k.vars k.body

-- rows for each predicate, over its columns, are rows over those of its arguments
abbrev pub SizesAreOfColumns : Type 0
SizesAreOfColumns = (m : Columns) (kinds : ℕ → List ℕ) (preds : List Pred) (rows : List Rows) → AreSizes (column_systems m kinds) preds rows → AreColumnSizes preds kinds rows

-- a clause whose rows have their proofs has its size rows proved
abbrev pub ClausesAreProved : Type 0
ClausesAreProved =
    (p : Listing) (c : Claims) (k : Clause) (proofs : List Multipliers) → AreColumns p.arithmetic.names c.truth c.columns
    → IsProved (column_systems c.columns c.kinds) c.rows k proofs → SizesProved c k

-- and so has each clause of a program
abbrev pub ProgramsAreProved : Type 0
ProgramsAreProved =
    (p : Listing) (c : Claims) (proofs : List (List Multipliers)) → AreColumns p.arithmetic.names c.truth c.columns
    → AreProved (column_systems c.columns c.kinds) c.rows p.clauses proofs → AllByRecursion (SizesProved c) p.clauses

-- the last rows of a chain give built-in predicates, whose columns are those of evaluated arguments, stated rows alone
abbrev pub RowsAreStated : Type 0
RowsAreStated =
    (speaks : List ℤ → Bool) (p : Listing) (comps : Partition) (steps : List Step) (c : Claims) → IsProgram p
    → IsLegalChain speaks (column_systems c.columns c.kinds) p comps steps c.rows
    → (q : ℕ) (b : Builtin) → kind_of p.arithmetic q ≡ Some b → c.kinds q ≡ c.columns.evaluated → AreStated p.arithmetic c q b

-- arguments that are numbers have the columns of evaluated ones
abbrev pub NumbersAreEvaluated : Type 0
NumbersAreEvaluated = (p : Listing) (m : Columns) (count : Kind → ℕ) (kinds : List (List Kind)) → AreNumbers p kinds → m.evaluated ≡ count Number ∷ (count Number ∷ [])
    → (q : ℕ) (b : Builtin) → kind_of p.arithmetic q ≡ Some b → counts_at count kinds q ≡ m.evaluated

-- the three columns and the one column of a norm are few
abbrev pub ThreeAreFew : Type 0
ThreeAreFew = (o : Option Arith) → AreFew (value_columns o) value_count

abbrev pub NormsAreFew : Type 0
NormsAreFew = (size : (ℕ → ℕ) → Tree → ℕ) (expression : ℕ → Tree → List ℤ) → AreFew (norm_columns size expression) one_column

-- by the kinds of a program's positions the arguments of built-in predicates are numbers
abbrev pub KindsAreNumbers : Type 0
KindsAreNumbers = (p : Listing) (kinds : List (List Kind)) → IsProgram p → AreKinds p kinds → AreNumbers p kinds
