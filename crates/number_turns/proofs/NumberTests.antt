-- Tests of the numbers of a transition.
use Rattle.std.proofs.Common.{◌≡◌, ◌↔◌, ℕ, zero, suc, ℤ, pos, ◌≤ℤ◌, IsTrue, Bool, true, false, List, [], ◌∷◌, map, slice_get, Option, Some, refl, sym, subst, arith}
use Rattle.std.specs.Prelude.{All, ◌&&◌}
use Rattle.std.specs.List.{AllByRecursion}
use Rattle.exact128.proofs.FitsLemmas.{both}
use Rattle.linear_rows.specs.Blown.{all_of}
use Rattle.linear_rows.specs.Plain.{plain_row, plain_rows}
use Rattle.linear_rows.specs.Replacing.{row_fits}
use Rattle.linear_rows.specs.declared.row.Row.{Row}
use Rattle.termination_model.proofs.Lists.{by_places, mapped_place}
use Rattle.number_turns.specs.Recalled.{IsNatural, column_of}

with_first : (z : ℤ) (zs : List ℤ) → pos 0 ≤ℤ z → All (λ x. pos 0 ≤ℤ x) zs → All (λ x. pos 0 ≤ℤ x) (z ∷ zs)
with_first z zs low h zero d lt = low
with_first z zs low h (suc k) d lt = h k d (omega (arith, lt))

pub natural_row : (row : Row) (o : Option Row) (b : Bool) → o ≡ Some row → pos 0 ≤ℤ row.constant → (IsTrue b ↔ All (λ x. pos 0 ≤ℤ x) row.coeffs) → IsTrue b ↔ IsNatural (column_of o)
natural_row row o b e low h =
    subst (λ (p : Option Row). IsTrue b ↔ IsNatural (column_of p)) (sym e) (
      λ t. with_first row.constant row.coeffs low (h.0 t),
      λ a. h.1 (λ k d lt. a (suc k) d (omega (arith, lt))),
    )

pub never : false ≡ true → ⊥
never e = cc

-- a column that is not natural
pub not_natural : (cs : List (Option Row)) (i : ℕ) (o : Option Row) → slice_get cs i ≡ Some o → (IsNatural (column_of o) → ⊥) → AllByRecursion IsNatural (map column_of cs) → ⊥
not_natural cs i o e fails h = fails (by_places IsNatural (map column_of cs) h i (column_of o) (mapped_place column_of cs i o e))

abbrev pub row_test : Row → Bool
row_test r = row_fits (plain_row r)

pub rows_tested : (rows : List Row) → all_of row_test rows ≡ true → AllByRecursion (λ (r : List ℤ). row_fits r ≡ true) (plain_rows rows)
rows_tested [] e = tt
rows_tested (r ∷ rows) e = let parts = both (row_test r) (all_of row_test rows) e in (parts.0, rows_tested rows parts.1)

pub rows_pass : (rows : List Row) → AllByRecursion (λ (r : List ℤ). row_fits r ≡ true) (plain_rows rows) → all_of row_test rows ≡ true
rows_pass [] h = refl
rows_pass (r ∷ rows) h = λ i. h.0 i && rows_pass rows h.1 i
