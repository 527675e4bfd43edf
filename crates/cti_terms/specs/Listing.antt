-- To believe, for a Yes.
-- A program: its predicates, numbered from 0, its clauses, numbered from 1, in order, and its built-in predicates.
--
-- To believe: `Listing`, `is_pred`, `with_pred`, and what every program keeps, `IsProgram`. `Arithmetic.antt` says what
-- is built in. The limits are those of `src/limits.rt`.
use Rattle.std.specs.Prelude.{◌≡◌, ◌≢◌, ℕ, zero, suc, ◌+◌, ◌≤◌, ◌<◌, ◌^◌, Bool, ◌&&◌, ◌==◌, IsTrue, List, [], ◌∷◌, ◌++◌, if◌then◌else◌, length, sum_by, slice_get, Option, None, Some, IsSomeAnd}
use Rattle.std.specs.List.{AllByRecursion, AllPairs, list_any}
use Rattle.cti_terms.specs.Arithmetic.{Arithmetic, kind_of}
use Rattle.cti_terms.specs.Tree.{is_below, nodes_of}
use Rattle.cti_terms.specs.declared.atom_list.Atom.{Atom}
use Rattle.cti_terms.specs.declared.builtins.Arith.{Arith}
use Rattle.cti_terms.specs.declared.builtins.Builtin.{Builtin}
use Rattle.cti_terms.specs.declared.clauses.Clause.{Clause}
use Rattle.cti_terms.specs.declared.limits.TheConstants.{MOST_ARGUMENTS, MOST_VARIABLES, MOST_CLAUSES, MOST_NODES, MOST_ATOMS}
use Rattle.cti_terms.specs.declared.predicates.Pred.{Pred}

-- predicates and clauses, each in order, and what is built in
pub record Listing : Type 0 where
  pub preds : List Pred
  pub clauses : List Clause
  pub arithmetic : Arithmetic

-- the element of a number that counts from 1
abbrev pub numbered : {X : Type 0} → List X → ℕ → Option X
numbered xs zero = None
numbered xs (suc i) = slice_get xs i

-- whether a predicate has this name and arity
abbrev pub is_pred : ℕ → ℕ → Pred → Bool
is_pred name arity p = (name == p.name.0) && (arity == p.arity)

-- the predicates with this one: one that is there changes nothing, and a new one goes last
abbrev pub with_pred : List Pred → Pred → List Pred
with_pred preds p = if list_any (is_pred p.name.0 p.arity) preds then preds else preds ++ p ∷ []

-- an atom of these predicates: as many arguments as the arity says, and each variable below vars
pub record IsAtom (preds : List Pred) (vars : ℕ) (a : Atom) : Type 0 where
  pub arity : IsSomeAnd (slice_get preds a.pred.0) (λ p. p.arity ≡ length a.args)
  pub below : AllByRecursion (λ t. IsTrue (is_below vars t)) a.args

-- how many nodes the arguments of an atom have together
abbrev pub atom_nodes : Atom → ℕ
atom_nodes a = sum_by nodes_of a.args

-- how many nodes the terms of a clause have together
abbrev pub clause_nodes : Clause → ℕ
clause_nodes c = atom_nodes c.head + sum_by atom_nodes c.body

-- a clause of these predicates, within the limits
pub record IsClause (preds : List Pred) (c : Clause) : Type 0 where
  pub head : IsAtom preds c.vars c.head
  pub body : AllByRecursion (IsAtom preds c.vars) c.body
  pub few : c.vars ≤ MOST_VARIABLES
  pub small : clause_nodes c ≤ MOST_NODES
  pub short : length c.body ≤ MOST_ATOMS

-- the three names differ
abbrev pub AreThree : Arith → Type 0
AreThree o = (o.plus ≢ o.minus) × (o.plus ≢ o.times) × (o.minus ≢ o.times)

-- each built-in predicate has two arguments
abbrev pub AreBinary : List Pred → Arithmetic → Type 0
AreBinary preds ar = (q : ℕ) (b : Builtin) → kind_of ar q ≡ Some b → IsSomeAnd (slice_get preds q) (λ p. p.arity ≡ 2)

-- the clause is one of a predicate that is not built in
abbrev pub IsOrdinary : Arithmetic → Clause → Type 0
IsOrdinary ar c = kind_of ar c.head.pred.0 ≡ None

-- what every program keeps
pub record IsProgram (p : Listing) : Type 0 where
  pub arities : AllByRecursion (λ (q : Pred). q.arity ≤ MOST_ARGUMENTS) p.preds
  pub distinct : AllPairs (λ (q r : Pred). q ≢ r) p.preds
  pub clauses : AllByRecursion (IsClause p.preds) p.clauses
  pub preds_fit : length p.preds < 2 ^ 32
  pub clauses_fit : length p.clauses ≤ MOST_CLAUSES
  pub binary : AreBinary p.preds p.arithmetic
  pub ordinary : AllByRecursion (IsOrdinary p.arithmetic) p.clauses

-- a clause with an empty body
abbrev pub IsFact : Clause → Type 0
IsFact c = c.body ≡ []

-- each clause is one of another predicate than this atom's
abbrev pub HasNoClause : Listing → Atom → Type 0
HasNoClause p a = AllByRecursion (λ (c : Clause). a.pred.0 ≢ c.head.pred.0) p.clauses
