-- Private.
-- What is known of a predicate's rows, and how far their passes can still go.
--
-- Rows other than the one row of constant -1 never contain that row, so a predicate leaves each state for good. After
-- the third pass a change of rows in one state makes the list shorter. So passes end.
use Rattle.std.specs.Prelude.{◌≡◌, ℕ, ◌+◌, ◌^◌, ℤ, List, [], ◌∷◌, length}
use Rattle.linear_rows.specs.Members.{In}
use Rattle.termination_model.specs.chains.ChainRows.{bottom_row, HasPoint}
use Rattle.size_chains.specs.declared.filled.Filled.{Filled}
use Rattle.size_chains.specs.declared.filled.Filled.TheVariants.{Bottom, Unknown, Inhabited}

abbrev pub IsFilled : ℕ → Filled → List (List ℤ) → Type 0
IsFilled n Bottom rows = rows ≡ bottom_row n ∷ []
IsFilled n Unknown rows = In (bottom_row n) rows → ⊥
IsFilled n Inhabited rows = HasPoint n rows

-- lists in memory have fewer than 2^64 rows
abbrev pub weight : Filled → List (List ℤ) → ℕ
weight Bottom rows = 2 ^ 65
weight Unknown rows = 2 ^ 64 + length rows
weight Inhabited rows = length rows
