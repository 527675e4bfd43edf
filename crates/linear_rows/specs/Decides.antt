-- Private.
-- What is found of rows, and decides whether they hold somewhere.
use Rattle.std.specs.Prelude.{◌≡◌, ℕ, ℤ, pos, List}
use Rattle.linear_rows.specs.Rows.{IsPoint}
use Rattle.linear_rows.specs.Proves.{Refutes, AllColumnsFit}
use Rattle.linear_rows.specs.Showing.{bottom_row}
use Rattle.linear_rows.specs.declared.solved.Solved.{Solved}
use Rattle.linear_rows.specs.declared.solved.Solved.TheVariants.{Point as PointFound, Refuted as RefutedBy}

-- a point is one of the rows, of n coefficients each, and multipliers refute them
abbrev pub Decides : ℕ → List (List ℤ) → Solved → Type 0
Decides n rows (PointFound p) = IsPoint n rows p.t p.w
Decides n rows (RefutedBy m) = (m.scale ≡ pos 0) × Refutes n rows m.list

-- the test of multipliers that refute is in numbers that fit, so that `proves` answers Holds
abbrev pub RefutesInFit : ℕ → List (List ℤ) → Solved → Type 0
RefutesInFit n rows (PointFound p) = Unit {0}
RefutesInFit n rows (RefutedBy m) = AllColumnsFit rows m.list (bottom_row n) (pos 0)
