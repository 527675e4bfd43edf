-- The target of a drop, column by column.
use Rattle.std.proofs.Common.{◌≡◌, ℕ, zero, suc, ◌<◌, ◌≤◌, ℤ, pos, negsuc, neg_ℤ, Bool, ◌+ℤ◌, ◌-ℤ◌, ◌*ℤ◌, List, [], ◌∷◌, ◌++◌, map, length, slice_index_or, refl, sym, ap, ◌∙◌, arith}
use Rattle.std.proofs.lemmas.Int.{ints}
use Rattle.std.proofs.lemmas.List.{length-map}
use Rattle.exact128.proofs.Rings.{rings}
use Rattle.exact128.specs.Sums.{entry, dot}
use Rattle.cti_terms.specs.Tree.{Tree}
use Rattle.cti_terms.specs.declared.atom_list.Atom.{Atom}
use Rattle.cti_terms.specs.declared.clauses.Clause.{Clause}
use Rattle.number_tests.specs.declared.level_part.LevelPart.{LevelPart}
use Rattle.term_size.specs.Norm.{IsNorm}
use Rattle.termination_model.specs.sizes.Replacing.{column_over, over_columns, unit_at}
use Rattle.termination_model.specs.sizes.Rows.{scaled, added}
use Rattle.termination_model.specs.sizes.Systems.{row_over}
use Rattle.termination_model.proofs.Proved.{length-substituted}
use Rattle.termination_model.proofs.Entries.{entry_scaled}
use Rattle.termination_model.proofs.RowColumns.{entry_added, entry_substituted, over_list}
use Rattle.termination_model.proofs.SystemLaws.{widths}
use Rattle.number_tests.specs.Targets.{AreFallColumns}
use Rattle.number_tests.specs.Drops.{drop_of, drop_weights}

-- the row of a number
entry_one : (d x : ℕ) → entry (pos d ∷ []) x ≡ pos d *ℤ unit_at x
entry_one d zero = omega (arith, ints)
entry_one d (suc x) = omega (arith, ints)

dot_joined : (ms bs xs ys : List ℤ) → length ms ≡ length xs → dot (ms ++ bs) (xs ++ ys) ≡ dot ms xs +ℤ dot bs ys
unfolding dot
dot_joined [] bs [] ys e = omega (arith, ints)
dot_joined [] bs (x ∷ xs) ys e = absurd (omega (arith, e))
dot_joined (a ∷ ms) bs [] ys e = absurd (omega (arith, e))
dot_joined (a ∷ ms) bs (x ∷ xs) ys e = omega (arith, ints, dot_joined ms bs xs ys (omega (arith, e)))

dot_negated : (ms xs : List ℤ) → dot (map neg_ℤ ms) xs ≡ negsuc 0 *ℤ dot ms xs
unfolding dot
dot_negated [] xs = omega (arith, ints)
dot_negated (a ∷ ms) [] = omega (arith, ints)
dot_negated (a ∷ ms) (x ∷ xs) =
    let rest = dot_negated ms xs in
    let minus : neg_ℤ a ≡ negsuc 0 *ℤ a = omega (arith, ints) in
    rw (rest, minus) (simp rings (omega (arith, ints)))

-- what the call's weights count in a column
call_part : (e o u : ℤ) (ms xs : List ℤ) → dot ((neg_ℤ o -ℤ e) ∷ map neg_ℤ ms) (u ∷ xs) ≡ negsuc 0 *ℤ (dot (o ∷ ms) (u ∷ xs) +ℤ e *ℤ u)
unfolding dot
call_part e o u ms xs =
    let rest = dot_negated ms xs in
    let minus : neg_ℤ o -ℤ e ≡ negsuc 0 *ℤ o +ℤ negsuc 0 *ℤ e = omega (arith, ints) in
    rw (rest, minus) (simp rings (omega (arith, ints)))

weights_in : (d : ℕ) (head call : LevelPart) (hs cs : List (List ℤ)) (x : ℕ) → length head.coeffs ≡ length hs
    → dot (drop_weights d head call) (column_over hs x ++ column_over cs x)
    ≡ dot (head.offset ∷ head.coeffs) (column_over hs x) +ℤ negsuc 0 *ℤ (dot (call.offset ∷ call.coeffs) (column_over cs x) +ℤ pos d *ℤ unit_at x)
weights_in d head call hs cs x e =
    dot_joined (head.offset ∷ head.coeffs) ((neg_ℤ call.offset -ℤ pos d) ∷ map neg_ℤ call.coeffs) (column_over hs x) (column_over cs x) (ap suc (e ∙ sym (length-map hs (λ r. entry r x))))
    ∙ ap (λ z. dot (head.offset ∷ head.coeffs) (column_over hs x) +ℤ z) (call_part (pos d) call.offset (unit_at x) call.coeffs (map (λ r. entry r x) cs))

length_added : (n : ℕ) (xs ys : List ℤ) → length xs ≡ n → length ys ≤ n → length (added xs ys) ≡ n
length_added n [] [] h k = h
length_added n [] (y ∷ ys) h k = absurd (omega arith)
length_added n (x ∷ xs) [] h k = h
length_added zero (x ∷ xs) (y ∷ ys) h k = absurd (omega arith)
length_added (suc n) (x ∷ xs) (y ∷ ys) h k = ap suc (length_added n xs ys (omega arith) (omega arith))

module _ (size : (ℕ → ℕ) → Tree → ℕ) (truth : (ℕ → Bool) → Tree → Bool) (expression : ℕ → Tree → List ℤ) (norm : IsNorm size truth expression) where
  long_row : (vars : ℕ) (a : Atom) (row : List ℤ) → length (row_over expression vars a.args row) ≡ suc vars
  long_row vars a row = length-substituted vars (map (expression vars) a.args) row (widths size truth expression norm vars a.args)

  -- the columns give the level of the head less that of the call less d
  pub drop_target : (d : ℕ) (c : Clause) (b : Atom) (head call : LevelPart) (columns : List (List ℤ)) → length head.coeffs ≡ length c.head.args
      → AreFallColumns (map (expression c.vars) c.head.args) (map (expression c.vars) b.args) c.vars columns
      → over_columns columns (drop_weights d head call) ≡ drop_of expression d c b head call
  drop_target d c b head call columns e are = sym (over_list columns (drop_weights d head call) (drop_of expression d c b head call) (long ∙ sym are.count) each)
    where
      hs : List (List ℤ)
      hs = map (expression c.vars) c.head.args

      cs : List (List ℤ)
      cs = map (expression c.vars) b.args

      first : List ℤ
      first = row_over expression c.vars c.head.args (head.offset ∷ head.coeffs)

      second : List ℤ
      second = row_over expression c.vars b.args (call.offset ∷ call.coeffs)

      long : length (drop_of expression d c b head call) ≡ suc c.vars
      long = length_added (suc c.vars) first (scaled (negsuc 0) (added second (pos d ∷ []))) (long_row c.vars c.head (head.offset ∷ head.coeffs))
          (omega (arith, length-map (added second (pos d ∷ [])) (λ x. negsuc 0 *ℤ x), length_added (suc c.vars) second (pos d ∷ []) (long_row c.vars b (call.offset ∷ call.coeffs)) (omega arith)))

      each : (i : ℕ) → i < length columns → entry (drop_of expression d c b head call) i ≡ dot (drop_weights d head call) (slice_index_or columns i [])
      each i lt =
          let h = entry_substituted c.vars hs (head.offset ∷ head.coeffs) i in
          let s = entry_substituted c.vars cs (call.offset ∷ call.coeffs) i in
          entry_added first (scaled (negsuc 0) (added second (pos d ∷ []))) i
          ∙ rw (h, entry_scaled (negsuc 0) (added second (pos d ∷ [])) i, entry_added second (pos d ∷ []) i, s, entry_one d i) refl
          ∙ sym (weights_in d head call hs cs i (e ∙ sym (length-map c.head.args (expression c.vars))))
          ∙ ap (dot (drop_weights d head call)) (sym (are.each i (omega (arith, are.count))))
