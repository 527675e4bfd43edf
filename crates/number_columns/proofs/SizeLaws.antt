-- The row of a term's size over three numbers for each variable.
use Rattle.std.proofs.Common.{◌≡◌, ◌∙◌, ℕ, zero, suc, ◌+◌, ◌<◌, ◌^◌, ℤ, pos, Bool, true, false, if◌then◌else◌, List, [], ◌∷◌, ◌++◌, Option, None, Some, refl, ap, sym, subst, arith, unsigned_abs}
use Rattle.std.specs.Int.{w128}
use Rattle.std.specs.Prelude.{FitsSigned}
use Rattle.std.proofs.lemmas.Int.{ints}
use Rattle.exact128.specs.Sums.{entry}
use Rattle.cti_terms.specs.Tree.{Tree, size}
use Rattle.term_size.specs.Occurrences.{occurrences, occurrences_from, size_row as occurrences_row}
use Rattle.linear_rows.specs.Plain.{plain_row}
use Rattle.linear_rows.specs.Replacing.{IsRowIfFits, row_fits}
use Rattle.linear_rows.specs.declared.row.Row.{Row}
use Rattle.termination_model.specs.columns.Columns.{numbers}
use Rattle.termination_model.specs.columns.Expressions.{occurring}
use Rattle.number_columns.specs.Cells.{capped}
use Rattle.number_columns.specs.ColumnLists.{if_fits, plain_column}
use Rattle.number_columns.specs.Lines.{IsLine}
use Rattle.number_columns.specs.Rows.{IsExpressionRow}
use Rattle.number_columns.specs.declared.line.Line.{Line}
use Rattle.number_columns.proofs.RowLaws.{numbers_more}

-- the row that is there where the numbers fit is the expression as far as it fits
pub column_if_fits : (e : Option (List ℤ)) (row : Option Row) → IsExpressionRow e row → plain_column row ≡ if_fits e
column_if_fits None row h = ap plain_column h
column_if_fits (Some e) None h = let q : row_fits e ≡ false = h in sym (ap (λ (b : Bool). if b then Some e else None) q)
column_if_fits (Some e) (Some r) h = ap Some h.0 ∙ sym (ap (λ (b : Bool). if b then Some e else None) h.1)

from_place : (x n v : ℕ) (t : Tree) → v < n → entry (occurrences_from x n t) v ≡ pos (occurrences (x + v) t)
from_place x zero v t lt = absurd (omega (arith, lt))
from_place x (suc n) zero t lt = let same : x ≡ x + 0 = omega arith in ap (λ y. pos (occurrences y t)) same
from_place x (suc n) (suc v) t lt = let same : suc x + v ≡ x + suc v = omega arith in from_place (suc x) n v t (omega (arith, lt)) ∙ ap (λ y. pos (occurrences y t)) same

-- a coefficient of the size is how often its variable occurs
pub coefficient : (constant : ℤ) (coeffs : List ℤ) (n v : ℕ) (t : Tree) → constant ∷ coeffs ≡ occurrences_row n t → v < n → entry coeffs v ≡ pos (occurrences v t)
coefficient constant coeffs n v t e lt =
    let tail : coeffs ≡ occurrences_from 0 n t = cc in
    let same : 0 + v ≡ v = omega arith in
    ap (λ (s : List ℤ). entry s v) tail ∙ from_place 0 n v t lt ∙ ap (λ y. pos (occurrences y t)) same

pub constant_is : (constant : ℤ) (coeffs : List ℤ) (n : ℕ) (t : Tree) → constant ∷ coeffs ≡ occurrences_row n t → constant ≡ pos (size (λ _. 0) t)
constant_is constant coeffs n t e = cc

-- a natural of at most 127 bits is held as it is
pub held : (z : ℤ) (n m : ℕ) → FitsSigned w128 z → z ≡ pos n → m ≡ unsigned_abs z → m ≡ capped n
held z n m f e is = omega (arith, ints)

-- three numbers more
pub size_more : (t : Tree) (v : ℕ) (l : Line) → IsLine ((pos (size (λ _. 0) t) ∷ numbers 3 v (occurring t)) ++ pos (occurrences v t) ∷ (pos 0 ∷ (pos 0 ∷ []))) l → IsLine (pos (size (λ _. 0) t) ∷ numbers 3 (v + 1) (occurring t)) l
size_more t v l h =
    let same : 0 + v ≡ v = omega arith in
    let next : suc v ≡ v + 1 = omega arith in
    let more : numbers 3 (suc v) (occurring t) ≡ numbers 3 v (occurring t) ++ pos (occurrences v t) ∷ (pos 0 ∷ (pos 0 ∷ [])) =
    numbers_more (occurring t) 0 v ∙ ap (λ z. numbers 3 v (occurring t) ++ pos (occurrences z t) ∷ (pos 0 ∷ (pos 0 ∷ []))) same in
    subst (λ n. IsLine (pos (size (λ _. 0) t) ∷ numbers 3 n (occurring t)) l) next (subst (λ zs. IsLine (pos (size (λ _. 0) t) ∷ zs) l) (sym more) h)
