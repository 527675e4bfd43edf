-- Private.
-- The nodes of a table, the newest first, and the table's invariant: for private clauses.
use Rattle.std.specs.Prelude.{ℕ, ◌≡◌, ◌≢◌, ◌+◌, ◌*◌, ◌%◌, ◌^◌, ◌<◌, ◌==◌, ◌&&◌, Bool, if◌then◌else◌, List, [], ◌∷◌, ◌++◌, length, Option, Some, None, Contains}
use Rattle.std.specs.HashMap.{HashMap, get}
use Rattle.bool_diagrams.specs.declared.node.Node.{Node}
use Rattle.bool_diagrams.specs.declared.memo.Key.{Key}
use Rattle.bool_diagrams.specs.Tree.{Tree, branch, IsFrom}
use Rattle.bool_diagrams.specs.Rows.{IsOf, tree}
use Rattle.bool_diagrams.specs.Joins.{IsRight}

-- the trees that the nodes spell, oldest first
unfoldable pub trees : List Node → List Tree
trees [] = []
trees (n ∷ older) = trees older ++ branch n.variable (tree (trees older) n.low) (tree (trees older) n.high) ∷ []

abbrev pub same_node : Node → Node → Bool
same_node m n = m.variable == n.variable && (m.low == n.low && m.high == n.high)

-- a node as one number, which few others have, to be hashed
abbrev pub mixed : Node → ℕ
mixed n = (n.low * 2 ^ 64 + n.high + n.variable * 2 ^ 88) % 2 ^ 128

-- the number of a node that the table has
abbrev pub place : List Node → Node → Option ℕ
place [] n = None
place (m ∷ older) n = if same_node m n then Some (length older + 2) else place older n

abbrev pub no_node : Node
no_node = record { variable = 0; low = 0; high = 0 }

-- the node with a number, where the table has one
abbrev pub node_at : List Node → ℕ → Node
node_at [] i = no_node
node_at (n ∷ older) i = if i == length older + 2 then n else node_at older i

-- a node's variable is one of the 64, its branches are two older diagrams, and they ask later variables
pub record IsNodeOver (trees : List Tree) (n : Node) : Type 0 where
  pub in_range : n.variable < 64
  pub low_of : IsOf trees n.low
  pub high_of : IsOf trees n.high
  pub apart : n.low ≢ n.high
  pub low_from : IsFrom (n.variable + 1) (tree trees n.low)
  pub high_from : IsFrom (n.variable + 1) (tree trees n.high)

-- ordered, reduced, and no two equal nodes
abbrev pub IsSound : List Node → Type 0
IsSound [] = Unit {0}
IsSound (n ∷ older) = IsNodeOver (trees older) n × (place older n ≡ None) × IsSound older

-- the table's invariant: its nodes are sound, the map finds each of them, and each memo entry is right
pub record IsTable {S : Type 0} (nodes : List Node) (unique : HashMap Node ℕ S) (memo : List (Key × ℕ)) : Type 0 where
  pub sound : IsSound nodes
  pub found : (n : Node) → get same_node unique n ≡ place nodes n
  pub right : (entry : Key × ℕ) → Contains memo entry → IsRight (trees nodes) entry.0 entry.1
