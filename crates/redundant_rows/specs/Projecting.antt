-- Private.
-- Rows that an elimination leaves, cut to its first columns.
use Rattle.std.specs.Prelude.{◌≡◌, ℕ, suc, ◌+◌, ℤ, List, map, take, Option, None, Some}
use Rattle.exact128.specs.Fits.{fits}
use Rattle.linear_rows.specs.Blown.{all_of, blown_step}
use Rattle.linear_rows.specs.Plain.{plain_rows, HaveWidth}
use Rattle.linear_rows.specs.Step.{all_eliminated, columns}
use Rattle.linear_rows.specs.declared.row.Rows.{Rows}
use Rattle.termination_model.specs.chains.ChainRows.{IsBlown, AreSpoken}
use Rattle.redundant_rows.specs.Choosing.{IsCore}

abbrev pub left_of : ℕ → ℕ → List (List ℤ) → List (List ℤ)
left_of n count rows = map (take (suc n)) (all_eliminated (n + count) (columns (suc n) count) rows)

pub record IsCut (n count : ℕ) (rows : List (List ℤ)) (r : Rows) : Type 0 where
  pub decided : blown_step (n + count) (columns (suc n) count) rows ≡ None
  pub width : r.width ≡ n
  pub widths : HaveWidth n r.list
  pub core : IsCore n (left_of n count rows) (plain_rows r.list)
  pub spoken : AreSpoken (all_of fits) n (left_of n count rows)

abbrev pub IsProjected : ℕ → ℕ → List (List ℤ) → Option Rows → Type 0
IsProjected n count rows None = IsBlown (blown_step (n + count) (columns (suc n) count) rows)
IsProjected n count rows (Some r) = IsCut n count rows r
