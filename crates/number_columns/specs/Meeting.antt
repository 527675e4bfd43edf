-- Private.
-- How the positions of a clause are linked by the variables that stand there. Nothing here has to be believed.
use Rattle.std.specs.Prelude.{◌≡◌, ◌==◌, Bool, ℕ, ◌+◌, ◌*◌, ◌<◌, ◌≤◌, ◌⊎◌, true, IsTrue, List, ◌∷◌, length, slice_get, Option, Some}
use Rattle.std.specs.List.{AllByRecursion}
use Rattle.cti_terms.specs.Arithmetic.{Arithmetic, kind_of}
use Rattle.cti_terms.specs.Tree.{Tree, Variable, is_below}
use Rattle.cti_terms.specs.declared.atom_list.Atom.{Atom}
use Rattle.cti_terms.specs.declared.builtins.Arith.{Arith}
use Rattle.cti_terms.specs.declared.builtins.Builtin.{Builtin}
use Rattle.cti_terms.specs.declared.clauses.Clause.{Clause}
use Rattle.cti_terms.specs.declared.predicates.Pred.{Pred}
use Rattle.cti_terms.specs.Listing.{Listing}
use Rattle.number_columns.specs.ColumnLists.{kinds_at}
use Rattle.number_columns.specs.declared.kind.Kind.{Kind}
use Rattle.number_columns.specs.declared.kind.Kind.TheVariants.{Size, Number}
use Rattle.number_columns.specs.Links.{AreFalling, AreLinked, LinksMore, Respects, mark_of, node_of, numbers_node}
use Rattle.number_columns.specs.Numeric.{IsClosed, IsEvaluatedIn, Stands, is_evaluated}

-- a variable stands at the position of a node
pub record StandsAt (c : Clause) (x n : ℕ) : Type 0 where
  pub pred : ℕ
  pub place : ℕ
  pub few : place < 12
  pub stands : Stands c x pred place
  pub node : n ≡ node_of pred place

-- positions that share a variable; and numbers, with a position of a variable that is evaluated
abbrev pub ClausePairs : Arithmetic → Clause → ℕ → ℕ → Type 0
ClausePairs ar c n m = ((x : ℕ) × StandsAt c x n × StandsAt c x m) ⊎ ((x : ℕ) × (n ≡ numbers_node) × StandsAt c x m × IsEvaluatedIn ar c x)

-- the first positions of variables are nodes
pub record IsReady (ps : List ℕ) (first : List (Option ℕ)) : Type 0 where
  pub falling : AreFalling ps
  pub within : (x n : ℕ) → slice_get first x ≡ Some (Some n) → n < length ps

-- links of the clause were added to those at the start, and the first positions are those of the clause's variables
pub record IsMeeting (ar : Arithmetic) (c : Clause) (start ps : List ℕ) (first : List (Option ℕ)) : Type 0 where
  pub links : LinksMore (ClausePairs ar c) start ps
  pub stands : (x n : ℕ) → slice_get first x ≡ Some (Some n) → StandsAt c x n

-- a node is linked to the first position of a variable
abbrev pub IsMet : List ℕ → List (Option ℕ) → ℕ → ℕ → Type 0
IsMet ps first x n = (m : ℕ) × (slice_get first x ≡ Some (Some m)) × AreLinked ps m n

-- what was met is met
abbrev pub KeepsMet : List ℕ → List (Option ℕ) → List ℕ → List (Option ℕ) → Type 0
KeepsMet ps first more later = (x n : ℕ) → IsMet ps first x n → IsMet more later x n

-- the positions of the first arguments of an atom are met
abbrev pub AreMet : List ℕ → List (Option ℕ) → ℕ → ℕ → List Tree → Type 0
AreMet ps first q n args = (i x : ℕ) → i < n → slice_get args i ≡ Some (Variable x) → IsMet ps first x (node_of q i)

-- what was linked is linked
abbrev pub KeepsLinks : List ℕ → List ℕ → Type 0
KeepsLinks old new = (f : ℕ → ℕ) → Respects f new → Respects f old

-- numbers with the node of a variable, where it is evaluated in one of these arguments
abbrev pub NumberPair : Option Arith → List Tree → ℕ → Option ℕ → ℕ → ℕ → Type 0
NumberPair o args x first n m = (n ≡ numbers_node) × (first ≡ Some m) × (argument : ℕ) × (term : Tree) × (slice_get args argument ≡ Some term) × (is_evaluated o x term ≡ true)

-- of the first k variables, each that is evaluated in one of these arguments has its first position linked to numbers
abbrev pub AreEvaluated : Option Arith → List ℕ → List (Option ℕ) → ℕ → List Tree → Type 0
AreEvaluated o ps first k args = (x n argument : ℕ) (term : Tree) → x < k → slice_get first x ≡ Some (Some n) → slice_get args argument ≡ Some term → is_evaluated o x term ≡ true → AreLinked ps numbers_node n

-- an atom whose positions are nodes, and whose variables are below a number
pub record IsRoomy (count vars : ℕ) (a : Atom) : Type 0 where
  pub room : a.pred.0 * 12 + 12 < count
  pub few : length a.args ≤ 12
  pub below : AllByRecursion (λ (t : Tree). IsTrue (is_below vars t)) a.args

-- the positions of these atoms are met
abbrev pub AllMet : List ℕ → List (Option ℕ) → ℕ → List Atom → Type 0
AllMet ps first k atoms = (place : ℕ) (a : Atom) → place < k → slice_get atoms place ≡ Some a → AreMet ps first a.pred.0 (length a.args) a.args

-- of the built-in ones among the first k of these atoms, the variables are linked to numbers
abbrev pub AllEvaluated : Arithmetic → List ℕ → List (Option ℕ) → ℕ → List Atom → Type 0
AllEvaluated ar ps first k atoms = (place : ℕ) (a : Atom) (kind : Builtin) → place < k → slice_get atoms place ≡ Some a → kind_of ar a.pred.0 ≡ Some kind → AreEvaluated ar.names ps first (length first) a.args

-- what the variables of a clause ask for is linked
pub record HasLinks (ar : Arithmetic) (c : Clause) (ps : List ℕ) : Type 0 where
  pub shared : (x q i r j : ℕ) → Stands c x q i → Stands c x r j → AreLinked ps (node_of q i) (node_of r j)
  pub evaluated : (x q i : ℕ) → Stands c x q i → IsEvaluatedIn ar c x → AreLinked ps numbers_node (node_of q i)

-- numbers, with a position of a built-in predicate
abbrev pub BuiltinPairs : Arithmetic → ℕ → ℕ → Type 0
BuiltinPairs ar n m = (n ≡ numbers_node) × (q : ℕ) × (i : ℕ) × (kind : Builtin) × (kind_of ar q ≡ Some kind) × (i < 2) × (m ≡ node_of q i)

-- the positions of the built-in ones among the first k predicates are linked to numbers
abbrev pub BuiltinsLinked : Arithmetic → List ℕ → ℕ → Type 0
BuiltinsLinked ar ps k = (q : ℕ) (kind : Builtin) → q < k → kind_of ar q ≡ Some kind → (i : ℕ) → i < 2 → AreLinked ps numbers_node (node_of q i)

-- pairs of some clause
abbrev pub ProgramPairs : Listing → ℕ → ℕ → Type 0
ProgramPairs p n m = (k : ℕ) × (c : Clause) × (slice_get p.clauses k ≡ Some c) × ClausePairs p.arithmetic c n m

-- what the first k clauses ask for is linked
abbrev pub ClausesLinked : Listing → List ℕ → ℕ → Type 0
ClausesLinked p ps k = (j : ℕ) (c : Clause) → j < k → slice_get p.clauses j ≡ Some c → HasLinks p.arithmetic c ps

-- the links of a program's positions: sets that are closed respect them, and what respects them gives a closed set
pub record IsLinkedUp (p : Listing) (ps : List ℕ) : Type 0 where
  pub count : length ps ≡ length p.preds * 12 + 1
  pub falling : AreFalling ps
  pub only : (s : ℕ → ℕ → Bool) → IsClosed p s → Respects (mark_of s) ps
  pub closed : (f : ℕ → ℕ) → Respects f ps → IsClosed p (λ q i. f (node_of q i) == f numbers_node)

-- the kind of a node: linked to numbers, or told apart from them
abbrev pub IsKindOf : List ℕ → ℕ → Kind → Type 0
IsKindOf ps n Number = AreLinked ps n numbers_node
IsKindOf ps n Size = (f : ℕ → ℕ) × Respects f ps × (f n ≡ f numbers_node → ⊥)

-- kinds of a predicate's positions
abbrev pub AreKindsOf : List ℕ → ℕ → List Kind → Type 0
AreKindsOf ps q kinds = (i : ℕ) (k : Kind) → slice_get kinds i ≡ Some k → IsKindOf ps (node_of q i) k

-- the kinds of the first n predicates are known
pub record RowsKnown (p : Listing) (ps : List ℕ) (n : ℕ) (rows : List (List Kind)) : Type 0 where
  pub each : length rows ≡ n
  pub arity : (q : ℕ) (pred : Pred) → q < n → slice_get p.preds q ≡ Some pred → length (kinds_at rows q) ≡ pred.arity
  pub kinds : (q : ℕ) → q < n → AreKindsOf ps q (kinds_at rows q)
