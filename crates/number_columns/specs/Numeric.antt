-- Private.
-- Numeric positions: the argument positions at which numbers may stand.
--
-- Each position of a built-in predicate is numeric. So is each position at which a variable stands that is evaluated in
-- the clause, and each position that shares a variable with a numeric one in a clause. No others are.
--
-- To believe: all of this file.
use Rattle.std.specs.Prelude.{◌≡◌, ◌↔◌, ℕ, ◌<◌, ◌==◌, ◌&&◌, ◌||◌, Bool, true, false, List, [], ◌∷◌, slice_get, Option, None, Some}
use Rattle.cti_terms.specs.Arithmetic.{Arithmetic, kind_of}
use Rattle.cti_terms.specs.Tree.{Tree, Trees, Variable, Integer, Compound, End, More}
use Rattle.cti_terms.specs.declared.atom_list.Atom.{Atom}
use Rattle.cti_terms.specs.declared.builtins.Arith.{Arith}
use Rattle.cti_terms.specs.declared.builtins.Builtin.{Builtin}
use Rattle.cti_terms.specs.declared.clauses.Clause.{Clause}
use Rattle.cti_terms.specs.Listing.{Listing}
use Rattle.number_columns.specs.ColumnLists.{HaveKinds, kinds_at}
use Rattle.number_columns.specs.declared.kind.Kind.{Kind}
use Rattle.number_columns.specs.declared.kind.Kind.TheVariants.{Number}

-- ---- evaluated places

-- whether one of the arguments passes, where the name is that of an operation with so many
abbrev pub some_operand : Arith → ℕ → List Bool → Bool
some_operand o f [] = false
some_operand o f (a ∷ []) = (f == o.minus.0) && a
some_operand o f (a ∷ (b ∷ [])) = ((f == o.plus.0) || ((f == o.minus.0) || (f == o.times.0))) && (a || b)
some_operand o f (a ∷ (b ∷ (c ∷ cs))) = false

-- the same where operations may have no names
abbrev pub some_operand_of : Option Arith → ℕ → List Bool → Bool
some_operand_of None f bs = false
some_operand_of (Some o) f bs = some_operand o f bs

abbrev mutual
  -- whether a variable stands in an evaluated place of a term: the term itself, and the arguments of an operation
  pub is_evaluated : Option Arith → ℕ → Tree → Bool
  is_evaluated o x (Variable y) = x == y
  is_evaluated o x (Integer n) = false
  is_evaluated o x (Compound f ts) = some_operand_of o f (all_evaluated o x ts)

  pub all_evaluated : Option Arith → ℕ → Trees → List Bool
  all_evaluated o x End = []
  all_evaluated o x (More t ts) = is_evaluated o x t ∷ all_evaluated o x ts

-- a variable stands in an evaluated place of an argument of a built-in atom of the body
pub record IsEvaluatedIn (ar : Arithmetic) (c : Clause) (x : ℕ) : Type 0 where
  pub atom : Atom
  pub place : ℕ
  pub there : slice_get c.body place ≡ Some atom
  pub kind : Builtin
  pub builtin : kind_of ar atom.pred.0 ≡ Some kind
  pub argument : ℕ
  pub term : Tree
  pub at : slice_get atom.args argument ≡ Some term
  pub evaluated : is_evaluated ar.names x term ≡ true

-- ---- positions, each a predicate and a place among its arguments, which counts from 0

-- a variable is the argument at place i of an atom of the predicate q, in the head or the body
pub record Stands (c : Clause) (x q i : ℕ) : Type 0 where
  pub atom : Atom
  pub place : ℕ
  pub there : slice_get (c.head ∷ c.body) place ≡ Some atom
  pub pred : atom.pred.0 ≡ q
  pub argument : slice_get atom.args i ≡ Some (Variable x)

-- a set of positions has those of built-in predicates and of evaluated variables, and with a position each one that
-- shares a variable with it in a clause
pub record IsClosed (p : Listing) (s : ℕ → ℕ → Bool) : Type 0 where
  pub builtin : (q : ℕ) (b : Builtin) → kind_of p.arithmetic q ≡ Some b → (i : ℕ) → i < 2 → s q i ≡ true
  pub evaluated : (k : ℕ) (c : Clause) → slice_get p.clauses k ≡ Some c → (x q i : ℕ) → Stands c x q i → IsEvaluatedIn p.arithmetic c x → s q i ≡ true
  pub shared : (k : ℕ) (c : Clause) → slice_get p.clauses k ≡ Some c → (x q i r j : ℕ) → Stands c x q i → Stands c x r j → s q i ≡ true → s r j ≡ true

-- the least such set: a position is numeric where each such set has it
abbrev pub IsNumeric : Listing → ℕ → ℕ → Type 0
IsNumeric p q i = (s : ℕ → ℕ → Bool) → IsClosed p s → s q i ≡ true

-- a kind for each argument of each predicate: `Number` exactly where the position is numeric
pub record AreKinds (p : Listing) (kinds : List (List Kind)) : Type 0 where
  pub have : HaveKinds p.preds kinds
  pub exact : (q i : ℕ) (k : Kind) → slice_get (kinds_at kinds q) i ≡ Some k → (k ≡ Number) ↔ IsNumeric p q i
