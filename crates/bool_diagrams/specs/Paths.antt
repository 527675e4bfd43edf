-- Private.
-- What the walk over the paths of a diagram does below its root: for private clauses.
use Rattle.std.specs.Prelude.{ℕ, ◌≡◌, ◌-◌, ◌<◌, Bool, false, List, slice_index_or}
use Rattle.bool_diagrams.specs.Tree.{Tree, value}

-- the truth rows of a tree over the variables from a level on
abbrev pub rows_from : ℕ → Tree → List Bool → Bool
rows_from level t row = value t (λ v. slice_index_or row (v - level) false)

-- the tree has the same value on rows that agree on the variables below the width
abbrev pub DependsBelow : ℕ → Tree → Type 0
DependsBelow width t = (row other : ℕ → Bool) → ((v : ℕ) → v < width → row v ≡ other v) → value t row ≡ value t other
