-- To believe, for the modes.
-- What a table of diagrams means. A table is seen as the list of its diagrams, oldest first, each as the decision
-- tree of its set of rows, without the two constants; a diagram is the set of the rows on which its tree is true.
--
-- To believe: all of this file, over `value` of Tree.
use Rattle.std.specs.Prelude.{ℕ, zero, suc, ◌+◌, ◌^◌, ◌≡◌, ◌<◌, ◌≤◌, ◌==◌, Bool, true, false, not, List, length, slice_index_or}
use Rattle.std.specs.Int.{bit_at}
use Rattle.bool_diagrams.specs.declared.diagram.Diagram.{Diagram}
use Rattle.bool_diagrams.specs.Tree.{Tree, leaf, value}

-- the tree of a number: 0 has no row, 1 has every row, and then come the diagrams of the list
unfoldable pub tree : List Tree → ℕ → Tree
tree trees zero = leaf false
tree trees (suc zero) = leaf true
tree trees (suc (suc k)) = slice_index_or trees k (leaf false)

-- the number is one that the table gave
abbrev pub IsOf : List Tree → ℕ → Type 0
IsOf trees i = i < length trees + 2

-- the diagram is one that the table gave
abbrev pub IsDiagram : List Tree → Diagram → Type 0
IsDiagram trees d = IsOf trees d.0

-- whether the diagram has the row
abbrev pub holds : List Tree → Diagram → (ℕ → Bool) → Bool
holds trees d row = value (tree trees d.0) row

-- two diagrams have the same rows
abbrev pub HaveSameRows : List Tree → Diagram → Diagram → Type 0
HaveSameRows trees a b = (row : ℕ → Bool) → holds trees a row ≡ holds trees b row

-- every earlier diagram stays, with the rows that it had
pub record Keeps (old new : List Tree) : Type 0 where
  pub more : length old ≤ length new
  pub trees : (i : ℕ) → IsOf old i → tree new i ≡ tree old i

-- whether two truth values are the same
abbrev pub iff : Bool → Bool → Bool
iff true b = b
iff false b = not b

-- the row that a number spells: variable v has the value of bit v
abbrev pub bit_of : ℕ → ℕ → Bool
bit_of number v = bit_at number v == 1

-- two diagrams have the same rows among those that a number of 64 bits spells
abbrev pub HaveSameNumbers : List Tree → Diagram → Diagram → Type 0
HaveSameNumbers trees a b = (number : ℕ) → number < 2 ^ 64 → holds trees a (bit_of number) ≡ holds trees b (bit_of number)

-- the diagram has the same value on rows that agree on the variables below the width
abbrev pub ReadsBelow : List Tree → Diagram → ℕ → Type 0
ReadsBelow trees d width = (row other : ℕ → Bool) → ((v : ℕ) → v < width → row v ≡ other v) → holds trees d row ≡ holds trees d other
