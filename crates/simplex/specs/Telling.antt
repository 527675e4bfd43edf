-- Private.
-- What the test of a row shows.
--
-- To believe: `Tells`, over the words of linear_rows.
use Rattle.std.specs.Prelude.{◌≡◌, ◌+◌, ◌≤◌, ℕ, suc, ℤ, pos, true, false, List, ◌∷◌, map, length, Option, None, Some}
use Rattle.exact128.specs.Fits.{fits}
use Rattle.linear_rows.specs.declared.row.Row.{Row}
use Rattle.linear_rows.specs.declared.row.Rows.{Rows}
use Rattle.linear_rows.specs.Blown.{all_of}
use Rattle.linear_rows.specs.Plain.{plain_row, plain_rows, HaveWidth}
use Rattle.linear_rows.specs.Systems.{opposite, test_rows}
use Rattle.linear_rows.specs.Irredundant.{TestIsBlown, EndsBlown, Fails}
use Rattle.linear_rows.specs.Rows.{HoldsOn}
use Rattle.linear_rows.specs.Solving.Solution.{Refuted}
use Rattle.linear_rows.specs.declared.multipliers.Multipliers.{Multipliers}
use Rattle.linear_rows.specs.Showing.{Shows, FailsAt}
use Rattle.linear_rows.specs.declared.solved.Solved.{Solved}
use Rattle.linear_rows.specs.declared.solved.Solved.TheVariants.{Point, Refuted as RefutedBy}
use Rattle.simplex.specs.declared.held.Held.{Held}
use Rattle.simplex.specs.declared.held.Held.TheVariants.{Yes as HeldYes, No as HeldNo, Blown}
use Rattle.simplex.specs.declared.implication.Implied.{Implied}
use Rattle.simplex.specs.declared.implication.Implied.TheVariants.{Yes, No, Unsure, Open}

-- a test of a row on rows of n coefficients each
abbrev pub Tells : ℕ → List (List ℤ) → List ℤ → Held → Type 0
Tells n rows row (HeldYes by) = Shows rows row by
Tells n rows row (HeldNo p) = FailsAt n rows row p
Tells n rows row Blown = TestIsBlown n rows row

-- what a search in the cone of rows of n coefficients each says of a row
abbrev pub SaysHolds : ℕ → List (List ℤ) → List ℤ → Implied → Type 0
SaysHolds n rows row Yes = HoldsOn (suc n) rows row
SaysHolds n rows row (No p) = Fails n rows row
SaysHolds n rows row (Unsure p) = Unit {0}
SaysHolds n rows row Open = Unit {0}

-- a t of at least 1, and n naturals
pub record IsWidePoint (n : ℕ) (numbers : List ℤ) : Type 0 where
  pub t : ℕ
  pub w : List ℕ
  pub numbers_are : numbers ≡ pos t ∷ map pos w
  pub some : 1 ≤ t
  pub long : length w ≡ n

-- multipliers that refute the rows of a test show the row, or meet a number that does not fit
abbrev pub ShowsIfFits : List (List ℤ) → List ℤ → List ℤ → Option Multipliers → Type 0
ShowsIfFits rows row ms None = EndsBlown rows row (Refuted ms)
ShowsIfFits rows row ms (Some by) = Shows rows row by

-- what solves the rows of a test says it, or is multipliers whose test meets a number that does not fit
abbrev pub TellsNothing : List (List ℤ) → List ℤ → Solved → Type 0
TellsNothing rows row (Point p) = ⊥
TellsNothing rows row (RefutedBy m) = EndsBlown rows row (Refuted m.list)

abbrev pub TellsIfFits : ℕ → List (List ℤ) → List ℤ → Solved → Option Held → Type 0
TellsIfFits n rows row solved (Some held) = Tells n rows row held
TellsIfFits n rows row solved None = TellsNothing rows row solved

-- the rows of the test of a row whose numbers fit
pub record IsTest (rows : Rows) (row : Row) (system : Rows) : Type 0 where
  pub row_fits : all_of fits (plain_row row) ≡ true
  pub width : system.width ≡ rows.width + 1
  pub widths : HaveWidth system.width system.list
  pub rows_are : plain_rows system.list ≡ test_rows rows.width (plain_rows rows.list) (plain_row row)

abbrev pub IsTestIfFits : Rows → Row → Option Rows → Type 0
IsTestIfFits rows row None = all_of fits (plain_row row) ≡ false
IsTestIfFits rows row (Some system) = IsTest rows row system

-- the row with each number negated, where these fit, and else nothing
abbrev pub IsOppositeIfFits : List ℤ → Option Row → Type 0
IsOppositeIfFits row None = all_of fits row ≡ false
IsOppositeIfFits row (Some r) = (all_of fits row ≡ true) × (plain_row r ≡ opposite row)
