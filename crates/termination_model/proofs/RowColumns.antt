-- Rows over arguments, column by column.
use Rattle.std.proofs.Common.{◌≡◌, ℕ, zero, suc, ◌<◌, ℤ, pos, ◌+ℤ◌, ◌*ℤ◌, Bool, true, false, ◌&&◌, List, [], ◌∷◌, ◌++◌, map, length, replicate, slice_index_or, refl, ap, sym, subst, ◌∙◌, arith}
use Rattle.std.proofs.lemmas.Grind.{common_steps}
use Rattle.std.specs.List.{AllByRecursion}
use Rattle.std.proofs.lemmas.Int.{ints}
use Rattle.std.proofs.lemmas.List.{length-map}
use Rattle.std.proofs.lemmas.Bool.Decides.{nat_tests}
use Rattle.exact128.specs.Fits.{Fits, fits}
use Rattle.exact128.specs.Sums.{entry, dot}
use Rattle.termination_model.specs.sizes.Replacing.{unit_at, column_over, AreColumns, over_columns}
use Rattle.termination_model.specs.sizes.Rows.{scaled, added, combined, substituted}
use Rattle.termination_model.specs.sizes.Systems.{row_fits}
use Rattle.termination_model.proofs.Proved.{length-substituted}
use Rattle.termination_model.proofs.Entries.{entry_scaled}

pub entry_added : (xs ys : List ℤ) (k : ℕ) → entry (added xs ys) k ≡ entry xs k +ℤ entry ys k
entry_added [] ys k = omega (arith, ints)
entry_added (x ∷ xs) [] k = omega (arith, ints)
entry_added (x ∷ xs) (y ∷ ys) zero = refl
entry_added (x ∷ xs) (y ∷ ys) (suc k) = entry_added xs ys k

pub entry_combined : (ms : List ℤ) (rows : List (List ℤ)) (k : ℕ) → entry (combined ms rows) k ≡ dot ms (map (λ e. entry e k) rows)
unfolding dot
entry_combined [] rows k = refl
entry_combined (m ∷ ms) [] k = refl
entry_combined (m ∷ ms) (row ∷ rows) k = entry_added (scaled m row) (combined ms rows) k ∙ rw (entry_scaled m row k, entry_combined ms rows k) refl

pub entry_zeros : (n k : ℕ) → entry (replicate n (pos 0)) k ≡ pos 0
entry_zeros zero k = refl
entry_zeros (suc n) zero = refl
entry_zeros (suc n) (suc k) = entry_zeros n k

pub entry_constant : (n : ℕ) (b : ℤ) (x : ℕ) → entry (b ∷ replicate n (pos 0)) x ≡ b *ℤ unit_at x
entry_constant n b zero = omega (arith, ints)
entry_constant n b (suc x) = entry_zeros n x ∙ omega (arith, ints)

-- a number of a replaced row
pub entry_substituted : (n : ℕ) (es : List (List ℤ)) (row : List ℤ) (x : ℕ) → entry (substituted n es row) x ≡ dot row (column_over es x)
unfolding dot
entry_substituted n es [] x = entry_zeros (suc n) x
entry_substituted n es (b ∷ row) x =
    entry_added (b ∷ replicate n (pos 0)) (combined row es) x ∙ rw (entry_constant n b x, entry_combined row es x) refl

-- lists of numbers are the same where their numbers are
pub same_lists : (xs ys : List ℤ) → length xs ≡ length ys → ((k : ℕ) → k < length xs → entry xs k ≡ entry ys k) → xs ≡ ys
same_lists [] [] l h = refl
same_lists [] (y ∷ ys) l h = absurd (omega (arith, l))
same_lists (x ∷ xs) [] l h = absurd (omega (arith, l))
same_lists (x ∷ xs) (y ∷ ys) l h =
    let here : x ≡ y = h 0 (omega arith) in
    let rest = same_lists xs ys (omega (arith, l)) (λ k lt. h (suc k) (omega arith)) in
    λ i. here i ∷ rest i

entry_map : (f : List ℤ → ℤ) (cs : List (List ℤ)) (k : ℕ) → k < length cs → entry (map f cs) k ≡ f (slice_index_or cs k [])
entry_map f [] k lt = absurd (omega arith)
entry_map f (c ∷ cs) zero lt = refl
entry_map f (c ∷ cs) (suc k) lt = entry_map f cs k (omega arith)

-- the columns give the replaced row
pub columns_replace : (n : ℕ) (es : List (List ℤ)) (columns : List (List ℤ)) (row : List ℤ) → AllByRecursion (λ (e : List ℤ). length e ≡ suc n) es → AreColumns es n columns
    → over_columns columns row ≡ substituted n es row
columns_replace n es columns row wide are =
    let count : length (over_columns columns row) ≡ suc n = length-map columns (λ c. dot row c) ∙ are.count in
    same_lists (over_columns columns row) (substituted n es row) (count ∙ sym (length-substituted n es row wide))
    (λ k lt. entry_map (λ c. dot row c) columns k (omega (arith, count, are.count)) ∙ ap (dot row) (are.each k (omega (arith, count))) ∙ sym (entry_substituted n es row k))

-- each number of a row fits
pub row_that_fits : (z : List ℤ) → ((k : ℕ) → k < length z → Fits (entry z k)) → row_fits z ≡ true
row_that_fits [] h = refl
row_that_fits (x ∷ z) h =
    let here : fits x ≡ true = let f = h 0 (omega arith) in grind (arith, nat_tests) in
    let rest = row_that_fits z (λ k lt. h (suc k) (omega arith)) in
    λ i. here i && rest i

pub row_that_does_not : (z : List ℤ) (k : ℕ) → k < length z → (Fits (entry z k) → ⊥) → row_fits z ≡ false
row_that_does_not [] k lt h = absurd (omega arith)
row_that_does_not (x ∷ z) zero lt h =
    let here : fits x ≡ false = grind (arith, nat_tests) in
    ap (λ b. b && row_fits z) here
row_that_does_not (x ∷ z) (suc k) lt h = off (fits x) (row_fits z) (row_that_does_not z k (omega arith) h)
  where
    off : (a b : Bool) → b ≡ false → (a && b) ≡ false
    off true b e = e
    off false b e = refl

pub kept : (row : List ℤ) (x : ℤ) (k : ℕ) → k < length row → entry (row ++ x ∷ []) k ≡ entry row k
kept row x k h = grind (arith, common_steps)

pub pushed_last : (row : List ℤ) (x : ℤ) (k : ℕ) → k ≡ length row → entry (row ++ x ∷ []) k ≡ x
pushed_last row x k h = grind (arith, common_steps)

-- numbers that are those of the columns are the row over them
pub over_list : (columns : List (List ℤ)) (row numbers : List ℤ) → length numbers ≡ length columns
    → ((i : ℕ) → i < length columns → entry numbers i ≡ dot row (slice_index_or columns i [])) → numbers ≡ over_columns columns row
over_list columns row numbers long each =
    same_lists numbers (over_columns columns row) (long ∙ sym (length-map columns (λ c. dot row c)))
    (λ k lt. each k (omega (arith, long)) ∙ sym (entry_map (λ c. dot row c) columns k (omega (arith, long))))

pub over_fit : (columns : List (List ℤ)) (row : List ℤ) → ((i : ℕ) → i < length columns → Fits (dot row (slice_index_or columns i []))) → row_fits (over_columns columns row) ≡ true
over_fit columns row fit =
    row_that_fits (over_columns columns row)
    (λ k lt. let l : k < length columns = omega (arith, length-map columns (λ c. dot row c)) in subst Fits (sym (entry_map (λ c. dot row c) columns k l)) (fit k l))

pub over_unfit : (columns : List (List ℤ)) (row : List ℤ) (k : ℕ) → k < length columns → (Fits (dot row (slice_index_or columns k [])) → ⊥) → row_fits (over_columns columns row) ≡ false
over_unfit columns row k lt unfit =
    row_that_does_not (over_columns columns row) k (omega (arith, length-map columns (λ c. dot row c)))
    (λ f. unfit (subst Fits (entry_map (λ c. dot row c) columns k lt) f))
