-- Private.
-- Rows that are inserted one after the other. Nothing here has to be believed.
use Rattle.std.specs.Prelude.{◌≡◌, ◌≢◌, ℕ, suc, ◌<◌, ℤ, List, [], ◌∷◌, length, slice_get, Option, None, Some}
use Rattle.linear_rows.specs.Members.{In}
use Rattle.linear_rows.specs.Plain.{plain_row, plain_rows, HaveWidth}
use Rattle.linear_rows.specs.Rows.{HoldsOn}
use Rattle.linear_rows.specs.declared.row.Row.{Row}
use Rattle.linear_rows.specs.declared.row.Rows.{Rows}
use Rattle.redundant_rows.specs.declared.mark.Mark.{Mark}
use Rattle.redundant_rows.specs.declared.mark.Mark.TheVariants.{Waiting, Kept, Implied}

-- the rows that are marked as kept
abbrev pub kept_of : {X : Type 0} → List Mark → List X → List X
kept_of [] xs = []
kept_of (m ∷ ms) [] = []
kept_of (Kept ∷ ms) (x ∷ xs) = x ∷ kept_of ms xs
kept_of (Waiting ∷ ms) (x ∷ xs) = kept_of ms xs
kept_of (Implied ∷ ms) (x ∷ xs) = kept_of ms xs

-- no row waits before a place
abbrev pub AreKnown : List Mark → ℕ → Type 0
AreKnown marks place = (i : ℕ) → i < place → slice_get marks i ≢ Some Waiting

-- a row that is marked as kept
pub record IsKeptAt (all : List Row) (marks : List Mark) (row : List ℤ) : Type 0 where
  pub place : ℕ
  pub marked : slice_get marks place ≡ Some Kept
  pub it : Row
  pub here : slice_get all place ≡ Some it
  pub row_is : plain_row it ≡ row

-- a mark for each row: those that do not wait hold on the rows that were inserted, and these are marked as kept
pub record IsInsertion (n : ℕ) (all : List Row) (marks : List Mark) (kept : Rows) : Type 0 where
  pub width : kept.width ≡ n
  pub widths : HaveWidth n kept.list
  pub count : length marks ≡ length all
  pub hold : (i : ℕ) (row : Row) → slice_get all i ≡ Some row → slice_get marks i ≢ Some Waiting → HoldsOn (suc n) (plain_rows kept.list) (plain_row row)
  pub kept_at : (row : List ℤ) → In row (plain_rows kept.list) → IsKeptAt all marks row

-- the row that is inserted next waits; where there is none, the rows that were inserted imply the one at a place
abbrev pub IsNext : ℕ → List Row → List Mark → Rows → ℕ → Option ℕ → Type 0
IsNext n all marks kept place None = (row : Row) × (slice_get all place ≡ Some row) × HoldsOn (suc n) (plain_rows kept.list) (plain_row row)
IsNext n all marks kept place (Some next) = slice_get marks next ≡ Some Waiting
