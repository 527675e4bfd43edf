-- The columns of an atom, by their places.
use Rattle.std.proofs.Common.{◌≡◌, ◌<◌, ℕ, zero, suc, ℤ, pos, ◌≤ℤ◌, true, List, [], ◌∷◌, map, length, slice_get, Option, Some, refl, ap, subst, arith}
use Rattle.std.specs.Prelude.{All, slice_index_or}
use Rattle.std.specs.List.{AllByRecursion}
use Rattle.std.proofs.lemmas.Int.{ints}
use Rattle.exact128.specs.Fits.{fits}
use Rattle.exact128.proofs.FitsLemmas.{both}
use Rattle.linear_rows.specs.Plain.{plain_row}
use Rattle.linear_rows.specs.Replacing.{row_fits}
use Rattle.exact128.specs.Sums.{entry}
use Rattle.linear_rows.specs.declared.row.Row.{Row}
use Rattle.termination_model.specs.columns.ColumnRows.{or_empty}
use Rattle.termination_model.proofs.Lists.{indexed, mapped_place, place_below}
use Rattle.number_turns.specs.Demanding.{AreNatural, HoldsNumbers}
use Rattle.number_turns.specs.Recalled.{HasNumbers, IsNatural, column_of, recalled}
use Rattle.number_turns.specs.declared.transition.Transition.{Transition}

pub column_entry : (cs : List (Option Row)) (i : ℕ) (o : Option Row) (x : ℕ) → slice_get cs i ≡ Some o
    → entry (slice_index_or (map or_empty (map column_of cs)) i []) x ≡ entry (or_empty (column_of o)) x
column_entry cs i o x e =
    ap (λ row. entry row x) (indexed (map or_empty (map column_of cs)) i (or_empty (column_of o)) [] (mapped_place or_empty (map column_of cs) i (column_of o) (mapped_place column_of cs i o e)))

pub natural_at : (cs : List (Option Row)) (i : ℕ) (o : Option Row) (x : ℕ) → AreNatural x cs → slice_get cs i ≡ Some o → pos 0 ≤ℤ entry (or_empty (column_of o)) x
natural_at cs i o x h e = subst (λ (c : Option Row). pos 0 ≤ℤ entry (or_empty (column_of c)) x) (indexed cs i o o e) (h i o (place_below cs i o e))

-- ---- numbers by columns
fits_at : (zs : List ℤ) (x : ℕ) → row_fits zs ≡ true → fits (entry zs x) ≡ true
fits_at [] x h = refl
fits_at (z ∷ zs) zero h = (both (fits z) (row_fits zs) h).0
fits_at (z ∷ zs) (suc x) h = fits_at zs x (both (fits z) (row_fits zs) h).1

natural_entry : (zs : List ℤ) (x : ℕ) → All (λ z. pos 0 ≤ℤ z) zs → pos 0 ≤ℤ entry zs x
natural_entry [] x h = omega (arith, ints)
natural_entry (z ∷ zs) zero h = h 0 z (omega arith)
natural_entry (z ∷ zs) (suc x) h = natural_entry zs x (λ k d lt. h (suc k) d (omega (arith, lt)))

-- what is said of each element of a list that is made of another
all_of_map : {X Y : Type 0} (P : Y → Type 0) (f : X → Y) (xs : List X) → AllByRecursion P (map f xs) → (k : ℕ) (d : X) → k < length xs → P (f (slice_index_or xs k d))
all_of_map P f [] h k d lt = absurd (omega (arith, lt))
all_of_map P f (x ∷ xs) h zero d lt = h.0
all_of_map P f (x ∷ xs) h (suc k) d lt = all_of_map P f xs h.1 k d (omega (arith, lt))

naturals_at : (cs : List (Option Row)) → AllByRecursion IsNatural (map column_of cs) → (x : ℕ) → AreNatural x cs
naturals_at cs h x k d lt = natural_entry (or_empty (column_of (slice_index_or cs k d))) x (all_of_map IsNatural column_of cs h k d lt)

holds_numbers : (τ : Transition) → HasNumbers (recalled τ) → HoldsNumbers τ
holds_numbers τ h = record {
  fit = λ x k d lt. fits_at (plain_row (slice_index_or τ.rows.list k d)) x (all_of_map (λ r. row_fits r ≡ true) plain_row τ.rows.list h.rows k d lt);
  head = naturals_at τ.head.columns h.head;
  call = naturals_at τ.call.columns h.call;
}

pub all_hold : (τs : List Transition) → AllByRecursion HasNumbers (map recalled τs) → AllByRecursion HoldsNumbers τs
all_hold [] h = tt
all_hold (τ ∷ τs) h = (holds_numbers τ h.0, all_hold τs h.1)
