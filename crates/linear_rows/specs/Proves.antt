-- To believe, for the command.
-- Proof by multipliers.
--
-- Rows prove a target where natural multiples of them sum to a row that is at most the target, times a scale, in each
-- column, the constant among them. With scale 0 the row of constant -1 and coefficients 0 stands for the multiplied
-- target: the rows are then empty.
--
-- To believe: `Proves`. That a proved target holds on the rows, and that scale 0 shows them empty, is the law
-- `proofs_are_sound` of this crate.
-- Source: Farkas' lemma, as in Schrijver 1986; the direction that is used is the easy one.
use Rattle.std.specs.Prelude.{◌≡◌, ◌+◌, All, ℕ, zero, suc, ℤ, pos, negsuc, List, ◌<◌, ◌-ℤ◌, ◌*ℤ◌, ◌≤ℤ◌, length}
use Rattle.exact128.specs.Fits.{Fits}
use Rattle.exact128.specs.Sums.{entry, dot, DotFits}
use Rattle.linear_rows.specs.Rows.{column}

-- the number that the multiplied rows may not pass in a column: the scale times the target's, or for scale 0 that of
-- the row of constant -1
abbrev pub goal_number : ℤ → List ℤ → ℕ → ℤ
goal_number (pos zero) target zero = negsuc 0
goal_number (pos zero) target (suc k) = pos 0
goal_number (pos (suc n)) target k = pos (suc n) *ℤ entry target k
goal_number (negsuc n) target k = negsuc n *ℤ entry target k

-- what the multiplied rows leave of it
abbrev pub rest_number : List (List ℤ) → List ℤ → List ℤ → ℤ → ℕ → ℤ
rest_number rows ms target scale k = goal_number scale target k -ℤ dot ms (column rows k)

-- the rows, multiplied by ms, prove the target with this scale
abbrev pub Proves : List (List ℤ) → List ℤ → List ℤ → ℤ → Type 0
Proves rows ms target scale = (k : ℕ) → k < length target → pos 0 ≤ℤ rest_number rows ms target scale k

-- one natural multiplier for each row, which show the rows, of n coefficients each, empty
pub record Refutes (n : ℕ) (rows : List (List ℤ)) (ms : List ℤ) : Type 0 where
  pub long : length ms ≡ length rows
  pub natural : All (λ m. pos 0 ≤ℤ m) ms
  pub proves : (target : List ℤ) → length target ≡ n + 1 → Proves rows ms target (pos 0)

-- each number that the test of a column forms fits: each product, each running sum in the order of the rows, the
-- scale times the target's number, and the difference
pub record ColumnFits (rows : List (List ℤ)) (ms target : List ℤ) (scale : ℤ) (k : ℕ) : Type 0 where
  pub sums : DotFits (length rows) ms (column rows k)
  pub goal : Fits (goal_number scale target k)
  pub rest : Fits (rest_number rows ms target scale k)

-- each number that the test of all columns forms fits
abbrev pub AllColumnsFit : List (List ℤ) → List ℤ → List ℤ → ℤ → Type 0
AllColumnsFit rows ms target scale = (k : ℕ) → k < length target → ColumnFits rows ms target scale k
