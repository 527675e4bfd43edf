-- Private.
-- Rows that are made number by number. Nothing here has to be believed.
use Rattle.std.specs.Prelude.{◌≡◌, ℕ, ℤ, pos, List, ◌∷◌, Option, None, Some, true, false}
use Rattle.exact128.specs.Fits.{fits}
use Rattle.cti_terms.specs.Tree.{Tree}
use Rattle.cti_terms.specs.declared.builtins.Arith.{Arith}
use Rattle.linear_rows.specs.Replacing.{row_fits}
use Rattle.termination_model.specs.columns.Columns.{numbers}
use Rattle.number_columns.specs.Cells.{numbers_at}
use Rattle.number_columns.specs.declared.cell.Column.{Column}
use Rattle.number_columns.specs.declared.cell.Column.TheVariants.{Constant, Number}
use Rattle.number_columns.specs.declared.line.Line.{Line}
use Rattle.number_columns.specs.declared.line.Lines.{Lines}

-- the number, where it fits
abbrev pub IsNarrowed : ℤ → Option ℤ → Type 0
IsNarrowed z None = fits z ≡ false
IsNarrowed z (Some n) = (n ≡ z) × (fits z ≡ true)

-- the line has these numbers, each of which fits, or one of them does not
abbrev pub IsLine : List ℤ → Line → Type 0
IsLine zs l = (l.fits ≡ row_fits zs) × (l.fits ≡ true → l.constant ∷ l.coeffs ≡ zs)

abbrev pub AreLines : List ℤ → List ℤ → Lines → Type 0
AreLines zs ws l = IsLine zs l.above × IsLine ws l.below

-- the row with these numbers
abbrev pub spelled : ℕ → (Column → ℕ) → List ℤ
spelled vars g = pos (g Constant) ∷ numbers 3 vars (λ y m. pos (g (Number y m)))

-- the lines have the constants of a term, and the numbers of the first n variables
abbrev pub AreLinesTo : Option Arith → ℕ → Tree → ℕ → Lines → Type 0
AreLinesTo o vars t n l = AreLines (spelled n (λ c. (numbers_at o vars c t).0)) (spelled n (λ c. (numbers_at o vars c t).1)) l
