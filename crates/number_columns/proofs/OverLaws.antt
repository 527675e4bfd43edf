-- Rows over columns, of which some are not there.
use Rattle.std.proofs.Common.{◌≡◌, ◌∙◌, ℕ, zero, suc, ◌+◌, ◌<◌, ◌≤◌, ℤ, pos, negsuc, ◌*ℤ◌, Bool, true, false, if◌then◌else◌, not, ◌||◌, List, [], ◌∷◌, ◌++◌, map, length, replicate, slice_get, Option, None, Some, refl, ap, sym, subst, arith}
use Rattle.std.proofs.lemmas.Int.{ints}
use Rattle.std.proofs.lemmas.List.{length-map}
use Rattle.std.specs.List.{AllByRecursion}
use Rattle.exact128.specs.Sums.{entry, dot}
use Rattle.linear_rows.specs.Replacing.{AreColumns, column_over, combined, over_columns, row_fits, substituted, unit_at}
use Rattle.linear_rows.specs.RowSums.{added, scaled}
use Rattle.linear_rows.specs.Solving.{zeros}
use Rattle.termination_model.specs.columns.ColumnRows.{is_zero, lacks, or_empty, or_zeros, row_over}
use Rattle.termination_model.specs.sizes.ShortSystems.{short_row}
use Rattle.termination_model.proofs.Proved.{length-added, length-added-le, length-replicate'}
use Rattle.termination_model.proofs.RowColumns.{columns_replace, entry_substituted, entry_zeros, same_lists}
use Rattle.number_columns.specs.ColumnLists.{HasLength, HaveLength, IsRowOver}
use Rattle.number_columns.specs.declared.rows_over.RowOver.TheVariants.{There, Missing, Wide}
use Rattle.linear_rows.specs.Plain.{plain_row}
use Rattle.linear_rows.specs.declared.row.Row.{Row}

pub zeros_are : (n : ℕ) → zeros n ≡ replicate n (pos 0)
zeros_are zero = refl
zeros_are (suc n) = ap (λ s. pos 0 ∷ s) (zeros_are n)

-- ---- columns that are there or not

pub length_or_zeros : (n : ℕ) (e : Option (List ℤ)) → HasLength n e → length (or_zeros n e) ≡ suc n
length_or_zeros n None h = ap suc (length-replicate' n)
length_or_zeros n (Some e) h = h

pub widths : (n : ℕ) (es : List (Option (List ℤ))) → HaveLength n es → AllByRecursion (λ (e : List ℤ). length e ≡ suc n) (map (or_zeros n) es)
widths n [] h = tt
widths n (e ∷ es) h = (length_or_zeros n e h.0, widths n es h.1)

entry_or : (n : ℕ) (e : Option (List ℤ)) (x : ℕ) → entry (or_zeros n e) x ≡ entry (or_empty e) x
entry_or n None x = entry_zeros (suc n) x
entry_or n (Some e) x = refl

entries_or : (n : ℕ) (es : List (Option (List ℤ))) (x : ℕ) → map (λ e. entry e x) (map (or_zeros n) es) ≡ map (λ e. entry e x) (map or_empty es)
entries_or n [] x = refl
entries_or n (e ∷ es) x = let here = entry_or n e x in let rest = entries_or n es x in λ i. here i ∷ rest i

length_combined : (n : ℕ) (ms : List ℤ) (es : List (Option (List ℤ))) → HaveLength n es → length (combined ms (map or_empty es)) ≤ suc n
length_combined n [] es h = omega arith
length_combined n (m ∷ ms) [] h = omega arith
length_combined n (m ∷ ms) (None ∷ es) h = length-added-le (suc n) [] (combined ms (map or_empty es)) (omega arith) (length_combined n ms es h.1)
length_combined n (m ∷ ms) (Some e ∷ es) h =
    length-added-le (suc n) (scaled m e) (combined ms (map or_empty es)) (omega (arith, length-map e (λ x. m *ℤ x), h.0)) (length_combined n ms es h.1)

pub length_substituted : (n : ℕ) (es : List (Option (List ℤ))) (row : List ℤ) → HaveLength n es → length (substituted n (map or_empty es) row) ≡ suc n
length_substituted n es [] h = ap suc (length-replicate' n)
length_substituted n es (b ∷ row) h = length-added (suc n) (b ∷ replicate n (pos 0)) (combined row (map or_empty es)) (ap suc (length-replicate' n)) (length_combined n row es h)

-- by the numbers of columns, with zeros in the place of those that are not there
pub over_columns_is : (n : ℕ) (es : List (Option (List ℤ))) (columns : List (List ℤ)) (row : List ℤ) → HaveLength n es → AreColumns (map (or_zeros n) es) n columns
    → over_columns columns row ≡ substituted n (map or_empty es) row
over_columns_is n es columns row h are =
    let zeros_in = columns_replace n (map (or_zeros n) es) columns row (widths n es h) are in
    let long : length (over_columns columns row) ≡ suc n = length-map columns (λ c. dot row c) ∙ are.count in
    let long_in : length (substituted n (map (or_zeros n) es) row) ≡ suc n = ap length (sym zeros_in) ∙ long in
    zeros_in
    ∙ same_lists (substituted n (map (or_zeros n) es) row) (substituted n (map or_empty es) row) (long_in ∙ sym (length_substituted n es row h))
    (λ k lt. entry_substituted n (map (or_zeros n) es) row k ∙ ap (λ (s : List ℤ). dot row (unit_at k ∷ s)) (entries_or n es k) ∙ sym (entry_substituted n (map or_empty es) row k))

-- ---- what a row lacks

or_false : (b : Bool) → (b || false) ≡ b
or_false true = refl
or_false false = refl

or_true : (a b : Bool) → b ≡ true → (a || b) ≡ true
or_true true b h = refl
or_true false b h = h

-- at one place
pub lacks_at : (row : List ℤ) (es : List (Option (List ℤ))) (i : ℕ) (z : ℤ) (e : Option (List ℤ)) → slice_get row i ≡ Some z → slice_get es i ≡ Some e → lacks (z ∷ []) (e ∷ []) ≡ true → lacks row es ≡ true
lacks_at [] es i z e at there h = cc
lacks_at (x ∷ xs) [] i z e at there h = cc
lacks_at (x ∷ xs) (None ∷ es) zero z e at there h =
    let same : z ≡ x = cc in
    let none : e ≡ None = cc in
    let here : (not (is_zero x) || false) ≡ true = subst (λ (y : ℤ). lacks (y ∷ []) (None ∷ []) ≡ true) same (subst (λ (d : Option (List ℤ)). lacks (z ∷ []) (d ∷ []) ≡ true) none h) in
    ap (λ (b : Bool). b || lacks xs es) (sym (or_false (not (is_zero x))) ∙ here)
lacks_at (x ∷ xs) (Some d ∷ es) zero z e at there h =
    let some : e ≡ Some d = cc in
    let here : false ≡ true = subst (λ (d : Option (List ℤ)). lacks (z ∷ []) (d ∷ []) ≡ true) some h in
    absurd (cc)
lacks_at (x ∷ xs) (None ∷ es) (suc i) z e at there h = or_true (not (is_zero x)) (lacks xs es) (lacks_at xs es i z e at there h)
lacks_at (x ∷ xs) (Some d ∷ es) (suc i) z e at there h = lacks_at xs es i z e at there h

-- at no place
pub lacks_none : (row : List ℤ) (es : List (Option (List ℤ))) → ((i : ℕ) (z : ℤ) (e : Option (List ℤ)) → slice_get row i ≡ Some z → slice_get es i ≡ Some e → lacks (z ∷ []) (e ∷ []) ≡ false) → lacks row es ≡ false
lacks_none [] es h = refl
lacks_none (z ∷ zs) [] h = refl
lacks_none (z ∷ zs) (None ∷ es) h =
    let here : not (is_zero z) ≡ false = sym (or_false (not (is_zero z))) ∙ h 0 z None refl refl in
    let rest = lacks_none zs es (λ i. h (suc i)) in
    λ i. here i || rest i
lacks_none (z ∷ zs) (Some e ∷ es) h = lacks_none zs es (λ i. h (suc i))

pub zero_is : (z : ℤ) → z ≡ pos 0 → is_zero z ≡ true
zero_is z e = ap is_zero e

pub other_is : (z : ℤ) → (z ≡ pos 0 → ⊥) → is_zero z ≡ false
other_is (pos zero) h = absurd (h refl)
other_is (pos (suc n)) h = refl
other_is (negsuc n) h = refl

-- ---- rows over columns

pub over_lacking : (n : ℕ) (es : List (Option (List ℤ))) (b : ℤ) (row : List ℤ) → lacks row es ≡ true → row_over n es (b ∷ row) ≡ None
over_lacking n es b row e = ap (λ (t : Bool). if t then None else Some (substituted n (map or_empty es) (b ∷ row))) e

pub over_there : (n : ℕ) (es : List (Option (List ℤ))) (b : ℤ) (row : List ℤ) → lacks row es ≡ false → row_over n es (b ∷ row) ≡ Some (substituted n (map or_empty es) (b ∷ row))
over_there n es b row e = ap (λ (t : Bool). if t then None else Some (substituted n (map or_empty es) (b ∷ row))) e

pub length_over : (n : ℕ) (es : List (Option (List ℤ))) (row : List ℤ) → HaveLength n es → HasLength n (row_over n es row)
length_over n es [] h = ap suc (length-replicate' n)
length_over n es (b ∷ row) h = go (lacks row es)
  where
    go : (t : Bool) → HasLength n (if t then None else Some (substituted n (map or_empty es) (b ∷ row)))
    go true = tt
    go false = length_substituted n es (b ∷ row) h

-- ---- zeros in the place of rows

pub zeros_fit : (n : ℕ) → row_fits (replicate n (pos 0)) ≡ true
zeros_fit zero = refl
zeros_fit (suc n) = zeros_fit n

pub short_fit : (z : List ℤ) → row_fits z ≡ true → short_row z ≡ z
short_fit z e = ap (λ (b : Bool). if b then z else map (λ _. pos 0) z) e

zeros_map : (z : List ℤ) → map (λ _. pos 0) z ≡ replicate (length z) (pos 0)
zeros_map [] = refl
zeros_map (x ∷ z) = ap (λ s. pos 0 ∷ s) (zeros_map z)

pub short_unfit : (n : ℕ) (z : List ℤ) → row_fits z ≡ false → length z ≡ suc n → short_row z ≡ replicate (suc n) (pos 0)
short_unfit n z e long = ap (λ (b : Bool). if b then z else map (λ _. pos 0) z) e ∙ zeros_map z ∙ ap (λ k. replicate k (pos 0)) long

-- ---- what a row over columns is

pub there_is : (o : Option (List ℤ)) (row : Row) → IsRowOver o (There row) → (o ≡ Some (plain_row row)) × (row_fits (plain_row row) ≡ true)
there_is None row h = absurd h
there_is (Some z) row h = (ap Some (sym h.0), ap row_fits h.0 ∙ h.1)

pub missing_is : (o : Option (List ℤ)) → IsRowOver o Missing → o ≡ None
missing_is None h = refl
missing_is (Some z) h = absurd h

pub wide_is : (n : ℕ) (o : Option (List ℤ)) → HasLength n o → IsRowOver o Wide → short_row (or_zeros n o) ≡ replicate (suc n) (pos 0)
wide_is n None long h = absurd h
wide_is n (Some z) long h = short_unfit n z h long
