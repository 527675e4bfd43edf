-- Private.
-- Held calls as calls of a view. Nothing here has to be believed.
use Rattle.std.specs.Prelude.{◌≡◌, ◌<◌, ◌+◌, ℕ, suc, ℤ, true, List, [], ◌∷◌, length, All, Option, None, Some}
use Rattle.exact128.specs.Fits.{fits}
use Rattle.exact128.specs.Sums.{entry}
use Rattle.cti_terms.specs.Tree.{Tree}
use Rattle.linear_rows.specs.Plain.{plain_row, plain_rows, HaveWidth}
use Rattle.linear_rows.specs.declared.multipliers.Multipliers.{Multipliers}
use Rattle.linear_rows.specs.declared.row.Row.{Row}
use Rattle.termination_model.specs.mappings.OwnCalls.{OwnCall as Recalled, head_sizes, call_sizes, rows_before}
use Rattle.level_systems.specs.Held.{AreSizes}
use Rattle.level_systems.specs.declared.own_call.OwnCall.{OwnCall}

-- the held call is this one
pub record Recalls (expression : ℕ → Tree → List ℤ) (o : Recalled) (own : OwnCall) : Type 0 where
  pub caller : own.caller.0 ≡ o.rule.member
  pub callee : own.callee.0 ≡ o.member
  pub caller_sizes : plain_rows own.caller_sizes.list ≡ head_sizes expression o
  pub callee_sizes : plain_rows own.callee_sizes.list ≡ call_sizes expression o
  pub rows : plain_rows own.rows.list ≡ rows_before expression o
  pub vars : own.rows.width ≡ o.rule.vars

-- the numbers of a held call, column by column
pub record HasNumbers (own : OwnCall) : Type 0 where
  pub natural : (x : ℕ) → x < suc own.rows.width → AreSizes x own.caller_sizes × AreSizes x own.callee_sizes
  pub widths : HaveWidth own.rows.width own.rows.list
  pub fit : (x : ℕ) → All (λ (r : Row). fits (entry (plain_row r) x) ≡ true) own.rows.list

-- how many multipliers the calls that can be reached have together
abbrev pub with_count : Option Multipliers → ℕ → ℕ → ℕ
with_count None n rest = n + rest
with_count (Some by) n rest = rest

abbrev pub count_of : List OwnCall → ℕ
count_of [] = 0
count_of (own ∷ owns) = with_count own.empty (length own.rows.list) (count_of owns)
