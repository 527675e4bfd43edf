-- For callers: earlier diagrams stay known and keep their rows, a diagram has one value on rows that
-- agree, sets with the same rows of a length have the same cubes, and the cubes of a set have its rows.
use Rattle.std.proofs.Common.{◌≡◌, ℕ, Bool, List, refl, arith}
use Rattle.bool_diagrams.specs.declared.diagram.Diagram.{Diagram}
use Rattle.bool_diagrams.specs.Tree.{Tree}
use Rattle.bool_diagrams.specs.Rows.{IsDiagram, Keeps, holds, tree}
use Rattle.bool_diagrams.proofs.Canonical.{value_same}
pub use Rattle.bool_diagrams.proofs.Nodes.{keeps_same, keeps_twice}
pub use Rattle.bool_diagrams.proofs.CubeLemmas.{SameAt, cubes_at, covered-cubes}

-- an earlier diagram is one of the table
pub known_later : (old new : List Tree) (d : Diagram) → Keeps old new → IsDiagram old d → IsDiagram new d
known_later old new d k known = let more = k.more in omega arith

-- an earlier diagram has the rows that it had
pub holds_later : (old new : List Tree) (d : Diagram) → Keeps old new → IsDiagram old d → (row : ℕ → Bool) → holds new d row ≡ holds old d row
holds_later old new d k known row = rw (k.trees d.0 known) refl

-- rows that agree everywhere are one row
pub holds_agree : (trees : List Tree) (d : Diagram) (row other : ℕ → Bool) → ((v : ℕ) → row v ≡ other v) → holds trees d row ≡ holds trees d other
holds_agree trees d row other agree = value_same (tree trees d.0) row other agree
