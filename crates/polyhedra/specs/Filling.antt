-- Private.
-- Whether rows hold at some point.
use Rattle.std.specs.Prelude.{ℕ, suc, ℤ, List}
use Rattle.linear_rows.specs.Rows.{AreEmpty}
use Rattle.linear_rows.specs.Irredundant.{TestIsBlown}
use Rattle.termination_model.specs.chains.ChainRows.{HasPoint, bottom_row}
use Rattle.polyhedra.specs.declared.emptiness.Emptiness.{Emptiness}
use Rattle.polyhedra.specs.declared.emptiness.Emptiness.TheVariants.{Empty, Inhabited, Unknown}

abbrev pub IsEmptiness : ℕ → List (List ℤ) → Emptiness → Type 0
IsEmptiness n rows Empty = AreEmpty (suc n) rows
IsEmptiness n rows Inhabited = HasPoint n rows
IsEmptiness n rows Unknown = TestIsBlown n rows (bottom_row n)
