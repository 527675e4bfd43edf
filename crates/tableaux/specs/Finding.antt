-- Private.
-- What pivots find.
use Rattle.std.specs.Prelude.{ℕ, ℤ, List}
use Rattle.linear_rows.specs.Decides.{Decides, RefutesInFit}
use Rattle.linear_rows.specs.declared.solved.Solved.{Solved}

-- a point of the rows, of n coefficients each, or multipliers that refute them, with a test in numbers that fit
pub record Solves (n : ℕ) (rows : List (List ℤ)) (solved : Solved) : Type 0 where
  pub decides : Decides n rows solved
  pub proved : RefutesInFit n rows solved
