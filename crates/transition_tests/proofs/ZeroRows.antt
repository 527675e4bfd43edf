-- Size rows that are shown with zeros in the place of columns that are not there.
use Rattle.std.proofs.Common.{◌≡◌, ◌∙◌, ℕ, zero, suc, ◌≤ℤ◌, ℤ, pos, ◌+ℤ◌, ◌*ℤ◌, Bool, true, false, if◌then◌else◌, List, [], ◌∷◌, map, length, replicate, Option, None, Some, ◌⊎◌, inl, inr, refl, ap, sym, subst, arith}
use Rattle.std.proofs.lemmas.Int.{ints}
use Rattle.exact128.specs.Sums.{dot, entry}
use Rattle.linear_rows.specs.Proves.{AllColumnsFit, ColumnFits, Proves, goal_number, rest_number}
use Rattle.linear_rows.specs.Replacing.{substituted, unit_at}
use Rattle.linear_rows.specs.Showing.{Shows, bottom_row}
use Rattle.linear_rows.specs.declared.multipliers.Multipliers.{Multipliers}
use Rattle.number_columns.proofs.OverLaws.{length_substituted, widths}
use Rattle.number_columns.specs.ColumnLists.{HaveLength}
use Rattle.termination_model.proofs.Proved.{length-substituted}
use Rattle.termination_model.proofs.RowColumns.{entry_substituted, entry_zeros, same_lists}
use Rattle.termination_model.specs.columns.ColumnRows.{lacks, least, negative, or_empty, or_zeros}
use Rattle.transition_tests.specs.Laws.{RowsOverZerosAreShown}
use Rattle.transition_tests.specs.Targets.{IsTargetShown}
use Rattle.transition_tests.proofs.TargetLaws.{bottom_fits, length_zeros}

-- ---- zeros count as nothing
dot_least : (n k : ℕ) (row : List ℤ) (es : List (Option (List ℤ))) → dot (least row es) (map (λ e. entry e k) (map or_empty es)) ≡ dot row (map (λ e. entry e k) (map (or_zeros n) es))
unfolding dot
dot_least n k [] es = refl
dot_least n k (z ∷ row) [] = refl
dot_least n k (z ∷ row) (None ∷ es) =
    let rest = dot_least n k row es in
    let nothing : entry (replicate (suc n) (pos 0)) k ≡ pos 0 = entry_zeros (suc n) k in
    let one : negative z *ℤ pos 0 ≡ pos 0 = omega (arith, ints) in
    let other : z *ℤ entry (replicate (suc n) (pos 0)) k ≡ pos 0 = ap (λ x. z *ℤ x) nothing ∙ omega (arith, ints) in
    (λ i. one i +ℤ rest i) ∙ (λ i. sym other i +ℤ dot row (map (λ e. entry e k) (map (or_zeros n) es)))
dot_least n k (z ∷ row) (Some e ∷ es) = ap (λ x. z *ℤ entry e k +ℤ x) (dot_least n k row es)

dot_row : (n k : ℕ) (b : ℤ) (row : List ℤ) (es : List (Option (List ℤ)))
    → dot (b ∷ row) (unit_at k ∷ map (λ e. entry e k) (map (or_zeros n) es)) ≡ dot (b ∷ least row es) (unit_at k ∷ map (λ e. entry e k) (map or_empty es))
unfolding dot
dot_row n k b row es = ap (λ x. b *ℤ unit_at k +ℤ x) (sym (dot_least n k row es))

same_target : (n : ℕ) (es : List (Option (List ℤ))) (b : ℤ) (row : List ℤ) → HaveLength n es → substituted n (map (or_zeros n) es) (b ∷ row) ≡ substituted n (map or_empty es) (b ∷ least row es)
same_target n es b row long =
    same_lists (substituted n (map (or_zeros n) es) (b ∷ row)) (substituted n (map or_empty es) (b ∷ least row es))
    (length-substituted n (map (or_zeros n) es) (b ∷ row) (widths n es long) ∙ sym (length_substituted n es (b ∷ least row es) long))
    (λ k lt. entry_substituted n (map (or_zeros n) es) (b ∷ row) k ∙ dot_row n k b row es ∙ sym (entry_substituted n (map or_empty es) (b ∷ least row es) k))

-- ---- with scale 0 a target plays no part
same_goal : (target other : List ℤ) (k : ℕ) → goal_number (pos 0) target k ≡ goal_number (pos 0) other k
same_goal target other zero = refl
same_goal target other (suc k) = refl

same_rest : (rows : List (List ℤ)) (ms target other : List ℤ) (k : ℕ) → rest_number rows ms target (pos 0) k ≡ rest_number rows ms other (pos 0) k
same_rest rows ms target other zero = refl
same_rest rows ms target other (suc k) = refl

column_fits : (rows : List (List ℤ)) (ms target other : List ℤ) (k : ℕ) → ColumnFits rows ms target (pos 0) k → ColumnFits rows ms other (pos 0) k
column_fits rows ms target other zero f = record { sums = f.sums; goal = f.goal; rest = f.rest }
column_fits rows ms target other (suc k) f = record { sums = f.sums; goal = f.goal; rest = f.rest }

bottom_from : (n : ℕ) (rows : List (List ℤ)) (target : List ℤ) (by : Multipliers) → length target ≡ suc n → by.scale ≡ pos 0 → Shows rows target by → Shows rows (bottom_row n) by
bottom_from n rows target by long zero_scale h =
    let proves : Proves rows by.list target (pos 0) = subst (Proves rows by.list target) zero_scale h.shown.proves in
    let fits : AllColumnsFit rows by.list target (pos 0) = subst (AllColumnsFit rows by.list target) zero_scale h.shown.numbers_fit in
    let same : length (bottom_row n) ≡ length target = ap suc (length_zeros n) ∙ sym long in
    record {
      multipliers = h.multipliers;
      shown = record {
        target_fits = bottom_fits n;
        proves = subst (Proves rows by.list (bottom_row n)) (sym zero_scale) (λ k lt. subst (λ z. pos 0 ≤ℤ z) (same_rest rows by.list target (bottom_row n) k) (proves k (omega (arith, lt, same))));
        numbers_fit = subst (AllColumnsFit rows by.list (bottom_row n)) (sym zero_scale) (λ k lt. column_fits rows by.list target (bottom_row n) k (fits k (omega (arith, lt, same))));
      };
    }

pub rows_over_zeros : RowsOverZerosAreShown
rows_over_zeros rows n es b row by long shows free = go (lacks (least row es) es) refl
  where
    shown : Shows rows (substituted n (map or_empty es) (b ∷ least row es)) by
    shown = subst (λ (z : List ℤ). Shows rows z by) (same_target n es b row long) shows

    scale_of : lacks (least row es) es ≡ true → by.scale ≡ pos 0
    scale_of e = either free
      where
        either : (by.scale ≡ pos 0) ⊎ (lacks (least row es) es ≡ false) → by.scale ≡ pos 0
        either (inl z) = z
        either (inr no_lack) = absurd (let both = sym e ∙ no_lack in cc)

    go : (t : Bool) → lacks (least row es) es ≡ t → IsTargetShown rows n (if t then None else Some (substituted n (map or_empty es) (b ∷ least row es))) by
    go true e = (bottom_from n rows (substituted n (map or_empty es) (b ∷ least row es)) by (length_substituted n es (b ∷ least row es) long) (scale_of e) shown, scale_of e)
    go false e = shown
