-- Private.
-- What a diagram is that was joined of others: for private clauses.
use Rattle.std.specs.Prelude.{ℕ, ◌≡◌, ◌+◌, ◌*◌, ◌^◌, ◌≤◌, ◌<◌, false, true, Bool, List, ◌&&◌, ◌||◌, if◌then◌else◌, Option, Some, None, nat_eq}
use Rattle.std.specs.HashMap.{HashMap, get}
use Rattle.bool_diagrams.specs.declared.connective.Connective.{Connective}
use Rattle.bool_diagrams.specs.declared.connective.Connective.TheVariants.{And, Or, Iff}
use Rattle.bool_diagrams.specs.declared.memo.Key.{Key}
use Rattle.bool_diagrams.specs.declared.memo.Key.TheVariants.{Join, Quantify}
use Rattle.bool_diagrams.specs.declared.node.Node.{Node}
use Rattle.bool_diagrams.specs.Tree.{Tree, branch, value, with_value, IsFrom}
use Rattle.bool_diagrams.specs.Rows.{IsOf, iff, tree}

-- the value that a connective gives to two
abbrev pub joined : Connective → Bool → Bool → Bool
joined And a b = a && b
joined Or a b = a || b
joined Iff a b = iff a b

-- the diagram i chooses between low and high by the variable, and asks no variable before it
pub record Chooses (old new : List Tree) (variable low high i : ℕ) : Type 0 where
  pub of : IsOf new i
  pub rows : (row : ℕ → Bool) → value (tree new i) row ≡ (if row variable then value (tree old high) row else value (tree old low) row)
  pub from : (v : ℕ) → v ≤ variable → IsFrom v (tree new i)

-- the node with the number i is n
pub record Stands (trees : List Tree) (i : ℕ) (n : Node) : Type 0 where
  pub above : 2 ≤ i
  pub of : IsOf trees i
  pub spells : tree trees i ≡ branch n.variable (tree trees n.low) (tree trees n.high)
  pub in_range : n.variable < 64
  pub low_below : n.low < i
  pub high_below : n.high < i
  pub low_from : IsFrom (n.variable + 1) (tree trees n.low)
  pub high_from : IsFrom (n.variable + 1) (tree trees n.high)

-- low and high are the diagram i where the variable is false and where it is true
pub record Splits (trees : List Tree) (variable i low high : ℕ) : Type 0 where
  pub low_of : IsOf trees low
  pub high_of : IsOf trees high
  pub low_rows : (row : ℕ → Bool) → row variable ≡ false → value (tree trees low) row ≡ value (tree trees i) row
  pub high_rows : (row : ℕ → Bool) → row variable ≡ true → value (tree trees high) row ≡ value (tree trees i) row
  pub low_from : IsFrom (variable + 1) (tree trees low)
  pub high_from : IsFrom (variable + 1) (tree trees high)
  pub low_most : low ≤ i
  pub high_most : high ≤ i
  pub less : (IsFrom (variable + 1) (tree trees i) → ⊥) → (low < i) × (high < i)

-- the first variable of two diagrams, of which one at least asks a variable
pub record IsFirst (trees : List Tree) (a b variable : ℕ) : Type 0 where
  pub in_range : variable < 64
  pub left : IsFrom variable (tree trees a)
  pub right : IsFrom variable (tree trees b)
  pub reads : IsFrom (variable + 1) (tree trees a) → IsFrom (variable + 1) (tree trees b) → ⊥

-- the diagram i joins a and b, and asks no variable before them
pub record Joins (trees : List Tree) (connective : Connective) (a b i : ℕ) : Type 0 where
  pub of : IsOf trees i
  pub rows : (row : ℕ → Bool) → value (tree trees i) row ≡ joined connective (value (tree trees a) row) (value (tree trees b) row)
  pub from : (v : ℕ) → IsFrom v (tree trees a) → IsFrom v (tree trees b) → IsFrom v (tree trees i)

-- the constant that leaves the other operand as it is
abbrev pub neutral : Connective → ℕ
neutral And = 1
neutral Or = 0
neutral Iff = 1

-- the constant that decides alone, where there is one
abbrev pub absorbing : Connective → Option ℕ
absorbing And = Some 0
absorbing Or = Some 1
absorbing Iff = None

-- what a diagram and itself give
abbrev pub with_itself : Connective → ℕ → ℕ
with_itself And a = a
with_itself Or a = a
with_itself Iff a = 1

-- the number joins a and b in every table
abbrev pub IsDecided : Connective → ℕ → ℕ → ℕ → Type 0
IsDecided connective a b i = (trees : List Tree) → IsOf trees a → IsOf trees b → Joins trees connective a b i

-- the diagram i joins what a is where the variable is false and where it is true, and asks no variable before a
pub record Quantifies (trees : List Tree) (connective : Connective) (a variable i : ℕ) : Type 0 where
  pub of : IsOf trees i
  pub rows : (row : ℕ → Bool)
      → value (tree trees i) row ≡ joined connective (value (tree trees a) (with_value row variable false)) (value (tree trees a) (with_value row variable true))
  pub from : (v : ℕ) → IsFrom v (tree trees a) → IsFrom v (tree trees i)

-- the operands of an operation as one number
abbrev pub operands : Key → ℕ
operands (Join connective a b) = a * 2 ^ 64 + b
operands (Quantify connective a variable) = a * 2 ^ 64 + variable

-- a memo entry is right: the number is the answer of the operation at its operands
abbrev pub IsRight : List Tree → Key → ℕ → Type 0
IsRight trees (Join connective a b) i = IsOf trees a × IsOf trees b × Joins trees connective a b i
IsRight trees (Quantify connective a variable) i = IsOf trees a × Quantifies trees connective a variable i

-- the diagram i is a with each variable renamed
pub record Renames (trees : List Tree) (rename : ℕ → ℕ) (a i : ℕ) : Type 0 where
  pub of : IsOf trees i
  pub rows : (row : ℕ → Bool) → value (tree trees i) row ≡ value (tree trees a) (λ v. row (rename v))

-- each memo entry is right: the number of a diagram leads to that of the renamed one
abbrev pub IsRenamed : {S : Type 0} → List Tree → (ℕ → ℕ) → HashMap ℕ ℕ S → Type 0
IsRenamed trees rename memo = (a i : ℕ) → get nat_eq memo a ≡ Some i → IsOf trees a × Renames trees rename a i
