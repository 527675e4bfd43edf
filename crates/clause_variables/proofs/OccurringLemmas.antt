-- Lemmas on where the variables of a list occur.
use Rattle.std.proofs.Common.{◌≡◌, ℕ, ◌+◌, ◌<◌, ◌≤◌, ◌||◌, Bool, true, false, nat_eq, nat_lt, List, [], ◌∷◌, ◌++◌, length, get_or, drop, take, slice_index, cond, refl, ap, sym, ◌∙◌, append_assoc, arith, length-append}
use Rattle.std.specs.List.{AllByRecursion, filter}
use Rattle.std.proofs.lemmas.Bool.{eqb-true, eqb-false, ltb-true, ltb-false, lt-ltb, le-ltb}
use Rattle.std.proofs.lemmas.List.{take_all, take_at, take-append-drop, take-take}
use Rattle.std.proofs.lemmas.List.Sums.{sum_by-append, count_by_more_yes, count_by_more_no}
use Rattle.clause_variables.specs.Occurring.{AreEnds, AreFirsts, AreNoted, count_to}
use Rattle.clause_variables.specs.declared.occurrences.Occurrences.{Occurrences}
use Rattle.clause_variables.specs.Terms.{count, firsts}
use Rattle.clause_variables.proofs.OrderLemmas.{count_head}

count_append : (xs ys : List ℕ) (x : ℕ) → count (xs ++ ys) x ≡ count xs x + count ys x
count_append xs ys x = sum_by-append (λ y. cond (nat_eq x y) 1 0) xs ys

-- no more often before an earlier place
count_more : (xs : List ℕ) (k m x : ℕ) → k ≤ m → count_to xs k x ≤ count_to xs m x
count_more xs k m x le =
    let e = take-append-drop k (take m xs) in
    omega (arith, ap (λ (ys : List ℕ). count ys x) e, count_append (take k (take m xs)) (drop k (take m xs)) x, ap (λ (ys : List ℕ). count ys x) (take-take k m xs le))

-- the table after a step
module _ (xs : List ℕ) (i : ℕ) (old new : List ℕ) (v : ℕ) (lt : i < length xs) (here : slice_index new (get_or xs i 0) ≡ v)
    (there : (z : ℕ) → (z ≡ get_or xs i 0 → ⊥) → slice_index new z ≡ slice_index old z) where
  abbrev y : ℕ
  y = get_or xs i 0

  yes : (x : ℕ) → nat_eq x y ≡ true → count_to xs (i + 1) x ≡ count_to xs i x + 1
  yes x e = count_by_more_yes (nat_eq x) xs i 0 lt e

  no : (x : ℕ) → nat_eq x y ≡ false → count_to xs (i + 1) x ≡ count_to xs i x
  no x e = count_by_more_no (nat_eq x) xs i 0 lt e

  is_v : (x : ℕ) → nat_eq x y ≡ true → slice_index new x ≡ v
  is_v x e = ap (slice_index new) (eqb-true x y e) ∙ here

  is_old : (x : ℕ) → nat_eq x y ≡ false → slice_index new x ≡ slice_index old x
  is_old x e = there x (eqb-false x y e)

  pub firsts_step : v ≡ i → AreFirsts xs (i + 1) old → AreFirsts xs i new
  firsts_step at h = record {
    after = λ x k some less. after_by x k some less (nat_eq x y) refl;
    until = λ x k some le more. until_by x k some le more (nat_eq x y) refl;
  }
    where
      after_by : (x k : ℕ) → count_to xs i x < count xs x → slice_index new x < k → (b : Bool) → nat_eq x y ≡ b → count_to xs i x < count_to xs k x
      after_by x k some less true e = let is = is_v x e in omega (arith, yes x e, count_more xs (i + 1) k x (omega (arith, is, at, less)))
      after_by x k some less false e = let s = no x e in let is = is_old x e in omega (arith, s, h.after x k (omega (arith, s, some)) (omega (arith, is, less)))

      until_by : (x k : ℕ) → count_to xs i x < count xs x → i ≤ k → k ≤ slice_index new x → (b : Bool) → nat_eq x y ≡ b → count_to xs k x ≡ count_to xs i x
      until_by x k some le more true e = let is = is_v x e in ap (λ (m : ℕ). count_to xs m x) (omega (arith, is, at, le, more))
      until_by x k some le more false e = by_place (nat_lt i k) refl
        where
          by_place : (b : Bool) → nat_lt i k ≡ b → count_to xs k x ≡ count_to xs i x
          by_place true l = let s = no x e in let is = is_old x e in omega (arith, s, h.until x k (omega (arith, s, some)) (omega (arith, ltb-true i k l)) (omega (arith, is, more)))
          by_place false l = ap (λ (m : ℕ). count_to xs m x) (omega (arith, le, ltb-false i k l))

  pub ends_step : v ≡ i + 1 → AreEnds xs i old → AreEnds xs (i + 1) new
  ends_step at h = record {
    before = λ x k some less. before_by x k some less (nat_eq x y) refl;
    from = λ x k some le more. from_by x k some le more (nat_eq x y) refl;
  }
    where
      before_by : (x k : ℕ) → 1 ≤ count_to xs (i + 1) x → k < slice_index new x → (b : Bool) → nat_eq x y ≡ b → count_to xs k x < count_to xs (i + 1) x
      before_by x k some less true e = let is = is_v x e in omega (arith, yes x e, count_more xs k i x (omega (arith, is, at, less)))
      before_by x k some less false e = let s = no x e in let is = is_old x e in omega (arith, s, h.before x k (omega (arith, s, some)) (omega (arith, is, less)))

      from_by : (x k : ℕ) → 1 ≤ count_to xs (i + 1) x → slice_index new x ≤ k → k ≤ i + 1 → (b : Bool) → nat_eq x y ≡ b → count_to xs k x ≡ count_to xs (i + 1) x
      from_by x k some le more true e = let is = is_v x e in ap (λ (m : ℕ). count_to xs m x) (omega (arith, is, at, le, more))
      from_by x k some le more false e = by_place (nat_lt i k) refl
        where
          by_place : (b : Bool) → nat_lt i k ≡ b → count_to xs k x ≡ count_to xs (i + 1) x
          by_place true l = ap (λ (m : ℕ). count_to xs m x) (omega (arith, more, ltb-true i k l))
          by_place false l = let s = no x e in let is = is_old x e in omega (arith, s, h.from x k (omega (arith, s, some)) (omega (arith, is, le)) (omega (arith, ltb-false i k l)))

-- what occurs before a place or from another on occurs more often than between them
module _ (before own after : List ℕ) (p : Occurrences) (h : AreNoted (before ++ (own ++ after)) p) where
  abbrev all : List ℕ
  all = before ++ (own ++ after)

  abbrev outside : ℕ → Bool
  outside x = nat_lt (slice_index p.firsts.items x) (length before) || nat_lt (length before + length own) (slice_index p.ends.items x)

  start : (x : ℕ) → count_to all (length before) x ≡ count before x
  start x = ap (λ (ys : List ℕ). count ys x) (take_at before (own ++ after) (length before) refl)

  end : (x : ℕ) → count_to all (length before + length own) x ≡ count before x + count own x
  end x =
      ap (λ (ys : List ℕ). count_to ys (length before + length own) x) (sym (append_assoc before own after))
      ∙ ap (λ (ys : List ℕ). count ys x) (take_at (before ++ own) after (length before + length own) (omega (arith, length-append before own)))
      ∙ count_append before own x

  total : (x : ℕ) → count all x ≡ count before x + (count own x + count after x)
  total x = omega (arith, count_append before (own ++ after) x, count_append own after x)

  whole : (x : ℕ) → count_to all (length all) x ≡ count all x
  whole x = ap (λ (ys : List ℕ). count ys x) (take_all (length all) all (omega arith))

  is_outside : (x : ℕ) → 1 ≤ count own x → outside x ≡ nat_lt (count own x) (count all x)
  is_outside x some = by_first (nat_lt (slice_index p.firsts.items x) (length before)) refl
    where
      there : count_to all 0 x < count all x
      there = omega (arith, total x, some)

      found : 1 ≤ count_to all (length all) x
      found = omega (arith, whole x, total x, some)

      by_end : (b : Bool) → nat_lt (length before + length own) (slice_index p.ends.items x) ≡ b → count before x ≡ 0 → b ≡ nat_lt (count own x) (count all x)
      by_end true e none =
          let k = h.ends.before x (length before + length own) found (ltb-true (length before + length own) (slice_index p.ends.items x) e) in
          sym (lt-ltb (count own x) (count all x) (omega (arith, k, end x, whole x, none)))
      by_end false e none =
          let k = h.ends.from x (length before + length own) found (ltb-false (length before + length own) (slice_index p.ends.items x) e) (omega (arith, length-append before (own ++ after), length-append own after)) in
          sym (le-ltb (count own x) (count all x) (omega (arith, k, end x, whole x, none)))

      by_first : (b : Bool) → nat_lt (slice_index p.firsts.items x) (length before) ≡ b → (b || nat_lt (length before + length own) (slice_index p.ends.items x)) ≡ nat_lt (count own x) (count all x)
      by_first true e =
          let k = h.firsts.after x (length before) there (ltb-true (slice_index p.firsts.items x) (length before) e) in
          sym (lt-ltb (count own x) (count all x) (omega (arith, k, start x, total x)))
      by_first false e =
          let k = h.firsts.until x (length before) there (omega arith) (ltb-false (slice_index p.firsts.items x) (length before) e) in
          by_end (nat_lt (length before + length own) (slice_index p.ends.items x)) refl (omega (arith, k, start x))

  all_occur : (done xs : List ℕ) → own ≡ done ++ xs → AllByRecursion (λ (x : ℕ). 1 ≤ count own x) xs
  all_occur done [] e = tt
  all_occur done (x ∷ xs) e =
      (omega (arith, ap (λ (ys : List ℕ). count ys x) e, count_append done (x ∷ xs) x, count_head x xs), all_occur (done ++ x ∷ []) xs (e ∙ sym (append_assoc done (x ∷ []) xs)))

  abbrev oftener : ℕ → Bool
  oftener x = nat_lt (count own x) (count all x)

  filter_more : (x : ℕ) (xs : List ℕ) → filter outside xs ≡ filter oftener xs → (b c : Bool) → outside x ≡ b → oftener x ≡ c → outside x ≡ oftener x → filter outside (x ∷ xs) ≡ filter oftener (x ∷ xs)
  filter_more x xs rest true true d e same = rw (d, e) (ap (λ (ys : List ℕ). x ∷ ys) rest)
  filter_more x xs rest true false d e same = absurd (cc (d, e, same))
  filter_more x xs rest false true d e same = absurd (cc (d, e, same))
  filter_more x xs rest false false d e same = rw (d, e) rest

  filter_same : (xs : List ℕ) → AllByRecursion (λ (x : ℕ). 1 ≤ count own x) xs → filter outside xs ≡ filter oftener xs
  filter_same [] a = refl
  filter_same (x ∷ xs) a = filter_more x xs (filter_same xs a.1) (outside x) (oftener x) refl refl (is_outside x a.0)

  -- so its variables that occur there are those that occur more often in all
  pub firsts_outside : firsts (filter outside own) ≡ firsts (filter oftener own)
  firsts_outside = ap firsts (filter_same own (all_occur [] own refl))
