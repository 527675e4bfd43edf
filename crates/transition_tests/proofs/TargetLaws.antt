-- Targets, and numbers of measures.
use Rattle.std.proofs.Common.{rules, ◌≡◌, ◌∙◌, ℕ, zero, suc, ℤ, pos, negsuc, ◌-ℤ◌, Bool, true, false, List, [], ◌∷◌, length, slice_get, Option, Some, None, refl, ap, subst, arith, FitsSigned, not}
use Rattle.std.specs.Int.{w128}
use Rattle.std.specs.Prelude.{is_some}
use Rattle.exact128.specs.Fits.{fits}
use Rattle.exact128.proofs.FitsLemmas.{both}
use Rattle.linear_rows.specs.Plain.{plain_row}
use Rattle.linear_rows.specs.Replacing.{row_fits}
use Rattle.linear_rows.specs.Showing.{bottom_row}
use Rattle.linear_rows.specs.Solving.{zeros}
use Rattle.linear_rows.specs.declared.row.Row.{Row}
use Rattle.number_columns.proofs.OverLaws.{length_over, there_is, zeros_are, zeros_fit}
use Rattle.number_columns.specs.ColumnLists.{HasLength, HaveLength, IsRowOver}
use Rattle.number_columns.specs.declared.rows_over.RowOver.TheVariants.{There}
use Rattle.termination_model.proofs.Proved.{length-replicate'}
use Rattle.termination_model.specs.columns.ColumnRows.{row_over}

pub length_zeros : (n : ℕ) → length (zeros n) ≡ n
length_zeros n = ap length (zeros_are n) ∙ length-replicate' n

pub bottom_fits : (n : ℕ) → row_fits (bottom_row n) ≡ true
bottom_fits n = ap (λ (zs : List ℤ). row_fits (negsuc 0 ∷ zs)) (zeros_are n) ∙ zeros_fit n

-- a row that is there has its length
pub there_long : (n : ℕ) (es : List (Option (List ℤ))) (row : List ℤ) (target : Row) → HaveLength n es → IsRowOver (row_over n es row) (There target) → length target.coeffs ≡ n
there_long n es row target h is =
    let long : length (plain_row target) ≡ suc n = subst (HasLength n) (there_is (row_over n es row) target is).0 (length_over n es row h) in
    omega (arith, long)

-- no flaw, as a truth value
pub is_none_of : {X : Type 0} (o : Option X) (b : Bool) → is_some o ≡ not b → b ≡ true → o ≡ None
is_none_of None b e t = refl
is_none_of (Some x) true e t = cc
is_none_of (Some x) false e t = cc

pub none_is : {X : Type 0} (o : Option X) (b : Bool) → is_some o ≡ not b → o ≡ None → b ≡ true
none_is None true e none = refl
none_is None false e none = cc
none_is (Some x) b e none = cc

-- a number of a row that fits
pub number_fits : (zs : List ℤ) (i : ℕ) (x : ℤ) → row_fits zs ≡ true → slice_get zs i ≡ Some x → fits x ≡ true
number_fits [] i x h e = cc
number_fits (z ∷ zs) zero x h e = let same : z ≡ x = cc in subst (λ (y : ℤ). fits y ≡ true) same (both (fits z) (row_fits zs) h).0
number_fits (z ∷ zs) (suc i) x h e = number_fits zs i x (both (fits z) (row_fits zs) h).1 e

-- its negation is in range
pub negated_fits : (x : ℤ) → fits x ≡ true → FitsSigned w128 x → FitsSigned w128 (pos 0 -ℤ x)
negated_fits x h f = search rules
