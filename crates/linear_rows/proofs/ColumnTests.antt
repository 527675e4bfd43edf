use Rattle.std.proofs.Common.{◌≡◌, ℕ, ℤ, List, ◌-ℤ◌, length}
use Rattle.exact128.specs.Fits.{Fits}
use Rattle.exact128.specs.Sums.{dot, DotFits}
use Rattle.linear_rows.specs.Rows.{column}
use Rattle.linear_rows.specs.Proves.{goal_number, rest_number, ColumnFits}

-- a column whose numbers fit, with what is left
pub record IsTested (rows : List (List ℤ)) (ms target : List ℤ) (d : ℤ) (k : ℕ) (rest : ℤ) : Type 0 where
  pub fits : ColumnFits rows ms target d k
  pub value : rest ≡ rest_number rows ms target d k

pub tested : (rows : List (List ℤ)) (ms target : List ℤ) (d : ℤ) (k n : ℕ) (sum goal rest : ℤ) → n ≡ length rows → DotFits n ms (column rows k) → sum ≡ dot ms (column rows k) →
    Fits (goal_number d target k) → goal ≡ goal_number d target k → Fits (goal -ℤ sum) → rest ≡ goal -ℤ sum → IsTested rows ms target d k rest
tested rows ms target d k n sum goal rest en fs es fg eg fr er = record {
  fits = record { sums = rw en at fs; goal = fg; rest = rw (eg, es) at fr };
  value = rw (eg, es) at er;
}
