-- Private.
-- A step's rows, cleaned one after the other, so that never more than 4,097 rows are kept.
use Rattle.std.specs.Prelude.{◌≡◌, ℕ, ℤ, List, nat_lt, length, fold, All, if◌then◌else◌}
use Rattle.exact128.specs.Fits.{Fits}
use Rattle.linear_rows.specs.Cleaning.{reduced, is_trivial, insert_row}

-- each number of the rows fits
abbrev pub AllFit : List (List ℤ) → Type 0
AllFit rows = All (λ r. All Fits r) rows

-- each row has the given number of numbers
abbrev pub AllLong : ℕ → List (List ℤ) → Type 0
AllLong n rows = All (λ r. length r ≡ n) rows

-- all rows have one length
abbrev pub OneLength : List (List ℤ) → Type 0
OneLength rows = (n : ℕ) × AllLong n rows

-- the kept rows with one more, which is divided, and left out where it is trivial
abbrev pub insert_divided : ℕ → List (List ℤ) → List ℤ → List (List ℤ)
insert_divided m kept row = if is_trivial m row then kept else insert_row m kept row

-- the kept rows with one more, which is divided first
unfoldable pub insert_clean : ℕ → List (List ℤ) → List ℤ → List (List ℤ)
insert_clean m kept row = insert_divided m kept (reduced row)

-- the same, but that nothing more is kept where more than 4,096 rows are
unfoldable pub add_row : ℕ → List (List ℤ) → List ℤ → List (List ℤ)
add_row m kept row = if nat_lt 4096 (length kept) then kept else insert_clean m kept row

abbrev pub add_rows : ℕ → List (List ℤ) → List (List ℤ) → List (List ℤ)
add_rows m kept rows = fold (add_row m) kept rows
