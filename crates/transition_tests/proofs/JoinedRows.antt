-- The fall of a measure is a row over the columns of head and call together.
use Rattle.std.proofs.Common.{◌≡◌, ◌∙◌, ℕ, zero, suc, ℤ, pos, negsuc, neg_ℤ, ◌+ℤ◌, ◌-ℤ◌, ◌*ℤ◌, Bool, true, false, not, ◌||◌, if◌then◌else◌, List, [], ◌∷◌, ◌++◌, map, length, Option, None, Some, refl, ap, sym, arith}
use Rattle.std.proofs.lemmas.Int.{ints}
use Rattle.std.proofs.lemmas.List.{length-append, length-map}
use Rattle.component_transitions.proofs.HeldTransitions.{columns_same}
use Rattle.exact128.proofs.Rings.{rings}
use Rattle.exact128.specs.Sums.{dot, entry}
use Rattle.linear_rows.specs.Replacing.{column_over, substituted, unit_at}
use Rattle.linear_rows.specs.RowSums.{added, scaled}
use Rattle.number_columns.proofs.OverLaws.{length_substituted}
use Rattle.linear_rows.specs.Plain.{plain_row}
use Rattle.linear_rows.specs.declared.row.Row.{Row}
use Rattle.number_columns.specs.ColumnLists.{HaveLength, plain_column, plain_columns}
use Rattle.number_tests.specs.Drops.{drop_weights}
use Rattle.number_tests.specs.declared.level_part.LevelPart.{LevelPart}
use Rattle.number_turns.specs.Recalled.{recalled}
use Rattle.number_turns.specs.declared.transition.Transition.{Transition as Held}
use Rattle.termination_model.proofs.Entries.{dot_parts, entry_scaled}
use Rattle.termination_model.proofs.Proved.{length-added, length-replicate'}
use Rattle.termination_model.proofs.RowColumns.{entry_added, entry_constant, entry_substituted, same_lists}
use Rattle.termination_model.specs.columns.ColumnClaims.{difference}
use Rattle.termination_model.specs.columns.ColumnRows.{is_zero, lacks, or_empty, row_over}
use Rattle.transitions.specs.Turns.{unit_row}
use Rattle.transition_tests.specs.Drops.{fall_by}
use Rattle.transition_tests.specs.Testing.{joined_at}

-- ---- what is lacked
or_assoc : (a b c : Bool) → (a || (b || c)) ≡ ((a || b) || c)
or_assoc true b c = refl
or_assoc false b c = refl

lacks_append : (xs : List ℤ) (es : List (Option (List ℤ))) (ys : List ℤ) (ds : List (Option (List ℤ))) → length xs ≡ length es → lacks (xs ++ ys) (es ++ ds) ≡ (lacks xs es || lacks ys ds)
lacks_append [] [] ys ds e = refl
lacks_append [] (x ∷ es) ys ds e = absurd (omega (arith, e))
lacks_append (x ∷ xs) [] ys ds e = absurd (omega (arith, e))
lacks_append (x ∷ xs) (None ∷ es) ys ds e =
    let rest = lacks_append xs es ys ds (omega (arith, e)) in
    (λ i. not (is_zero x) || rest i) ∙ or_assoc (not (is_zero x)) (lacks xs es) (lacks ys ds)
lacks_append (x ∷ xs) (Some r ∷ es) ys ds e = lacks_append xs es ys ds (omega (arith, e))

zero_negated : (z : ℤ) → is_zero (neg_ℤ z) ≡ is_zero z
zero_negated (pos zero) = refl
zero_negated (pos (suc n)) = refl
zero_negated (negsuc n) = refl

lacks_negated : (xs : List ℤ) (es : List (Option (List ℤ))) → lacks (map neg_ℤ xs) es ≡ lacks xs es
lacks_negated [] es = refl
lacks_negated (x ∷ xs) [] = refl
lacks_negated (x ∷ xs) (None ∷ es) = let here = zero_negated x in let rest = lacks_negated xs es in λ i. not (here i) || rest i
lacks_negated (x ∷ xs) (Some r ∷ es) = lacks_negated xs es

-- ---- numbers of columns
map_append : (hs cs : List (Option (List ℤ))) → map or_empty (hs ++ cs) ≡ map or_empty hs ++ map or_empty cs
map_append [] cs = refl
map_append (h ∷ hs) cs = ap (λ s. or_empty h ∷ s) (map_append hs cs)

entries_append : (k : ℕ) (xs ys : List (List ℤ)) → map (λ e. entry e k) (xs ++ ys) ≡ map (λ e. entry e k) xs ++ map (λ e. entry e k) ys
entries_append k [] ys = refl
entries_append k (x ∷ xs) ys = ap (λ s. entry x k ∷ s) (entries_append k xs ys)

unit_entry : (n k : ℕ) → entry (unit_row n) k ≡ unit_at k
unit_entry n k = entry_constant n (pos 1) k ∙ omega (arith, ints)

pub lengths_append : (n : ℕ) (hs cs : List (Option (List ℤ))) → HaveLength n hs → HaveLength n cs → HaveLength n (hs ++ cs)
lengths_append n [] cs h k = k
lengths_append n (e ∷ hs) cs h k = (h.0, lengths_append n hs cs h.1 k)

-- the columns of both, and the number 1 between them
abbrev pub joined : ℕ → List (Option (List ℤ)) → List (Option (List ℤ)) → List (Option (List ℤ))
joined n hs cs = hs ++ (Some (unit_row n) ∷ cs)

pub joined_lengths : (n : ℕ) (hs cs : List (Option (List ℤ))) → HaveLength n hs → HaveLength n cs → HaveLength n (joined n hs cs)
joined_lengths n hs cs h k = lengths_append n hs (Some (unit_row n) ∷ cs) h (ap suc (length-replicate' n), k)

column_joined : (n : ℕ) (hs cs : List (Option (List ℤ))) (k : ℕ) → column_over (map or_empty (joined n hs cs)) k ≡ column_over (map or_empty hs) k ++ column_over (map or_empty cs) k
column_joined n hs cs k =
    ap (λ (es : List (List ℤ)). unit_at k ∷ map (λ e. entry e k) es) (map_append hs (Some (unit_row n) ∷ cs))
    ∙ ap (λ s. unit_at k ∷ s) (entries_append k (map or_empty hs) (unit_row n ∷ map or_empty cs))
    ∙ ap (λ z. unit_at k ∷ (map (λ e. entry e k) (map or_empty hs) ++ (z ∷ map (λ e. entry e k) (map or_empty cs)))) (unit_entry n k)

-- ---- the numbers of a fall
entry_one : (d x : ℕ) → entry (pos d ∷ []) x ≡ pos d *ℤ unit_at x
entry_one d zero = omega (arith, ints)
entry_one d (suc x) = omega (arith, ints)

dot_negated : (ms xs : List ℤ) → dot (map neg_ℤ ms) xs ≡ negsuc 0 *ℤ dot ms xs
unfolding dot
dot_negated [] xs = omega (arith, ints)
dot_negated (a ∷ ms) [] = omega (arith, ints)
dot_negated (a ∷ ms) (x ∷ xs) =
    let rest = dot_negated ms xs in
    let minus : neg_ℤ a ≡ negsuc 0 *ℤ a = omega (arith, ints) in
    rw (rest, minus) (simp rings (omega (arith, ints)))

call_part : (e o u : ℤ) (ms xs : List ℤ) → dot ((neg_ℤ o -ℤ e) ∷ map neg_ℤ ms) (u ∷ xs) ≡ negsuc 0 *ℤ (dot (o ∷ ms) (u ∷ xs) +ℤ e *ℤ u)
unfolding dot
call_part e o u ms xs =
    let rest = dot_negated ms xs in
    let minus : neg_ℤ o -ℤ e ≡ negsuc 0 *ℤ o +ℤ negsuc 0 *ℤ e = omega (arith, ints) in
    rw (rest, minus) (simp rings (omega (arith, ints)))

module _ (n d : ℕ) (hs cs : List (Option (List ℤ))) (head call : LevelPart) (many : length head.coeffs ≡ length hs) (long_hs : HaveLength n hs) (long_cs : HaveLength n cs) where
  abbrev first : List ℤ
  first = substituted n (map or_empty hs) (head.offset ∷ head.coeffs)

  abbrev second : List ℤ
  second = substituted n (map or_empty cs) (call.offset ∷ call.coeffs)

  abbrev whole : List ℤ
  whole = substituted n (map or_empty (joined n hs cs)) (drop_weights d head call)

  abbrev dropped : List ℤ
  dropped = added first (scaled (negsuc 0) (added second (pos d ∷ [])))

  many_entries : (k : ℕ) → length (head.offset ∷ head.coeffs) ≡ length (column_over (map or_empty hs) k)
  many_entries k = ap suc (many ∙ sym (length-map hs or_empty) ∙ sym (length-map (map or_empty hs) (λ e. entry e k)))

  whole_entry : (k : ℕ) → entry whole k
      ≡ dot (head.offset ∷ head.coeffs) (column_over (map or_empty hs) k) +ℤ negsuc 0 *ℤ (dot (call.offset ∷ call.coeffs) (column_over (map or_empty cs) k) +ℤ pos d *ℤ unit_at k)
  whole_entry k =
      entry_substituted n (map or_empty (joined n hs cs)) (drop_weights d head call) k
      ∙ ap (dot (drop_weights d head call)) (column_joined n hs cs k)
      ∙ dot_parts (head.offset ∷ head.coeffs) ((neg_ℤ call.offset -ℤ pos d) ∷ map neg_ℤ call.coeffs) (column_over (map or_empty hs) k) (column_over (map or_empty cs) k) (many_entries k)
      ∙ ap (λ z. dot (head.offset ∷ head.coeffs) (column_over (map or_empty hs) k) +ℤ z) (call_part (pos d) call.offset (unit_at k) call.coeffs (map (λ e. entry e k) (map or_empty cs)))

  dropped_entry : (k : ℕ) → entry dropped k
      ≡ dot (head.offset ∷ head.coeffs) (column_over (map or_empty hs) k) +ℤ negsuc 0 *ℤ (dot (call.offset ∷ call.coeffs) (column_over (map or_empty cs) k) +ℤ pos d *ℤ unit_at k)
  dropped_entry k =
      let h = entry_substituted n (map or_empty hs) (head.offset ∷ head.coeffs) k in
      let s = entry_substituted n (map or_empty cs) (call.offset ∷ call.coeffs) k in
      entry_added first (scaled (negsuc 0) (added second (pos d ∷ []))) k
      ∙ rw (h, entry_scaled (negsuc 0) (added second (pos d ∷ [])) k, entry_added second (pos d ∷ []) k, s, entry_one d k) refl

  long_whole : length whole ≡ suc n
  long_whole = length_substituted n (joined n hs cs) (drop_weights d head call) (joined_lengths n hs cs long_hs long_cs)

  long_first : length first ≡ suc n
  long_first = length_substituted n hs (head.offset ∷ head.coeffs) long_hs

  long_second : length second ≡ suc n
  long_second = length_substituted n cs (call.offset ∷ call.coeffs) long_cs

  long_dropped : length dropped ≡ suc n
  long_dropped = length-added (suc n) first (scaled (negsuc 0) (added second (pos d ∷ []))) long_first
      (omega (arith, length-map (added second (pos d ∷ [])) (λ x. negsuc 0 *ℤ x), length-added (suc n) second (pos d ∷ []) long_second (omega arith)))

  same_numbers : whole ≡ dropped
  same_numbers = same_lists whole dropped (long_whole ∙ sym long_dropped) (λ k lt. whole_entry k ∙ sym (dropped_entry k))

  lacks_whole : lacks (head.coeffs ++ ((neg_ℤ call.offset -ℤ pos d) ∷ map neg_ℤ call.coeffs)) (joined n hs cs) ≡ (lacks head.coeffs hs || lacks call.coeffs cs)
  lacks_whole =
      lacks_append head.coeffs hs ((neg_ℤ call.offset -ℤ pos d) ∷ map neg_ℤ call.coeffs) (Some (unit_row n) ∷ cs) many
      ∙ ap (λ (b : Bool). lacks head.coeffs hs || b) (lacks_negated call.coeffs cs)

  by_lacks : (a b : Bool) → (if a || b then None else Some whole) ≡ difference d (if a then None else Some first) (if b then None else Some second)
  by_lacks true b = refl
  by_lacks false true = refl
  by_lacks false false = ap Some same_numbers

  pub fall_is : row_over n (joined n hs cs) (drop_weights d head call) ≡ difference d (row_over n hs (head.offset ∷ head.coeffs)) (row_over n cs (call.offset ∷ call.coeffs))
  fall_is = ap (λ (t : Bool). if t then None else Some whole) lacks_whole ∙ by_lacks (lacks head.coeffs hs) (lacks call.coeffs cs)

-- ---- joined columns as the code makes them
pub plain_joined : (hs : List (Option Row)) (x : Option Row) (cs : List (Option Row)) → plain_columns (([] ++ hs ++ x ∷ []) ++ cs) ≡ plain_columns hs ++ (plain_column x ∷ plain_columns cs)
plain_joined [] x cs = refl
plain_joined (h ∷ hs) x cs = ap (λ s. plain_column h ∷ s) (plain_joined hs x cs)

-- a row for joined columns is as long as these
pub same_many : (list : List (Option Row)) (τ : Held) (row : Row) (d : ℕ) (head call : LevelPart) → plain_columns list ≡ joined_at τ → plain_row row ≡ drop_weights d head call
    → length head.coeffs ≡ length τ.head.columns → length call.coeffs ≡ length τ.call.columns → length row.coeffs ≡ length list
same_many list τ row d head call e q h k =
    let wide = ap length e in
    let long = ap length q in
    let weights = length-append head.coeffs ((neg_ℤ call.offset -ℤ pos d) ∷ map neg_ℤ call.coeffs) in
    let parts = length-append (plain_columns τ.head.columns) (Some (unit_row τ.rows.width) ∷ plain_columns τ.call.columns) in
    omega (arith, wide, long, weights, parts, h, k, length-map list plain_column, length-map call.coeffs neg_ℤ, length-map τ.head.columns plain_column, length-map τ.call.columns plain_column)

-- the row over joined columns is the fall
pub fall_over : (list : List (Option Row)) (τ : Held) (row : Row) (d : ℕ) (head call : LevelPart) → plain_columns list ≡ joined_at τ → plain_row row ≡ drop_weights d head call
    → length head.coeffs ≡ length τ.head.columns → HaveLength τ.rows.width (plain_columns τ.head.columns) → HaveLength τ.rows.width (plain_columns τ.call.columns)
    → row_over τ.rows.width (plain_columns list) (plain_row row) ≡ fall_by (recalled τ) d head call
fall_over list τ row d head call e q h lh lc =
    let n = τ.rows.width in
    let hs = plain_columns τ.head.columns in
    let cs = plain_columns τ.call.columns in
    (λ i. row_over n (e i) (q i))
    ∙ fall_is n d hs cs head call (h ∙ sym (length-map τ.head.columns plain_column)) lh lc
    ∙ (λ i. difference d (row_over n (sym (columns_same τ.head.columns) i) (head.offset ∷ head.coeffs)) (row_over n (sym (columns_same τ.call.columns) i) (call.offset ∷ call.coeffs)))
