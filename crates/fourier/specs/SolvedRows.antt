-- Private.
-- A step's rows that are crossed with an equation, added one after the other.
use Rattle.std.specs.Prelude.{ℕ, ℤ, List, Bool, true, ◌||◌, if◌then◌else◌}
use Rattle.exact128.specs.Sums.{entry}
use Rattle.linear_rows.specs.Elimination.{is_positive, is_negative}
use Rattle.linear_rows.specs.Equation.{solved_row}
use Rattle.linear_rows.specs.Blown.{solved_fits}
use Rattle.sparse_rows.specs.Adding.{add_row}

-- whether the variable of a column occurs in a row
abbrev pub moves : ℕ → List ℤ → Bool
moves k q = is_positive (entry q k) || is_negative (entry q k)

-- the kept rows with one more, crossed with the equation of r and s where the variable stands in it
unfoldable pub add_solved : ℕ → ℕ → List ℤ → List ℤ → List (List ℤ) → List ℤ → List (List ℤ)
add_solved m k r s kept q = if moves k q then add_row m kept (solved_row k r s q) else kept

-- its numbers fit
unfoldable pub add_solved_fits : ℕ → List ℤ → List ℤ → List ℤ → Bool
add_solved_fits k r s q = if moves k q then solved_fits k r s q else true
