-- Private.
-- What tests of rows over a head's arguments tell on a clause's system.
--
-- To believe: `TellsHead`.
use Rattle.std.specs.Prelude.{◌≡◌, suc, ◌⊎◌, ℤ, pos, ◌≤ℤ◌, true, false, List, length, All, Option, None, Some}
use Rattle.linear_rows.specs.Plain.{plain_row, plain_rows}
use Rattle.linear_rows.specs.declared.row.Row.{Row}
use Rattle.linear_rows.specs.Irredundant.{TestIsBlown}
use Rattle.linear_rows.specs.Replacing.{substituted, row_fits}
use Rattle.linear_rows.specs.Showing.{Shows, FailsAt}
use Rattle.linear_rows.specs.declared.system.System.{System}
use Rattle.linear_rows.specs.declared.point.Point.{Point}
use Rattle.simplex.specs.declared.held.Held.{Held}
use Rattle.simplex.specs.declared.held.Held.TheVariants.{Yes, No, Blown}

-- a row over the head's arguments, with their size expressions in their places
abbrev pub at_head : System → List ℤ → List ℤ
at_head s row = substituted s.variables (plain_rows s.head.list) row

-- a test of a row on a clause's system is blown: a row of the system did not fit, or the test of the replaced row is
-- blown
abbrev pub IsBlownOn : System → List ℤ → Type 0
IsBlownOn s row = (s.wide ≡ true) ⊎ TestIsBlown s.variables (plain_rows s.rows.list) (at_head s row)

-- a row fails at a point of a clause's system, each row of which fits
pub record FailsOn (s : System) (row : List ℤ) (p : Point) : Type 0 where
  pub narrow : s.wide ≡ false
  pub point : FailsAt s.variables (plain_rows s.rows.list) (at_head s row) p

-- a test of a row over the head's arguments on a clause's system
abbrev pub TellsHead : System → List ℤ → Held → Type 0
TellsHead s row (Yes by) = Shows (plain_rows s.rows.list) (at_head s row) by
TellsHead s row (No p) = FailsOn s row p
TellsHead s row Blown = IsBlownOn s row

-- a clause's system as `termination_model` gives it: lists of the width of its variables
pub record IsSystem (s : System) : Type 0 where
  pub rows_width : s.rows.width ≡ s.variables
  pub head_width : s.head.width ≡ s.variables
  pub rows : All (λ r. length r ≡ suc s.variables) (plain_rows s.rows.list)
  pub head : All (λ r. length r ≡ suc s.variables) (plain_rows s.head.list)

-- no number in the head is below 0
abbrev pub HasNaturalHead : System → Type 0
HasNaturalHead s = All (λ r. All (λ x. pos 0 ≤ℤ x) r) (plain_rows s.head.list)

-- a target: the row, where it fits, and else nothing
abbrev pub IsTarget : List ℤ → Option Row → Type 0
IsTarget z None = row_fits z ≡ false
IsTarget z (Some r) = (plain_row r ≡ z) × (row_fits z ≡ true)
