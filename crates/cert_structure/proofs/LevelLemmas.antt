-- Reading the levels and the proofs for calls: what is read is listed so, and what is listed so is read.
use Rattle.std.proofs.Common.{◌≡◌, ◌≢◌, ℕ, zero, suc, ◌+◌, ◌<◌, ◌≤◌, ◌⊎◌, inl, inr, Bool, true, false, ◌==◌, if◌then◌else◌, List, [], ◌∷◌, ◌++◌, length, take, slice_get, Some, None, Ok, refl, ap, sym, ◌∙◌, subst, arith, eqb-true, eq-eqb, append_assoc, append-nil}
use Rattle.std.proofs.lemmas.Bool.{false≢true}
use Rattle.std.proofs.lemmas.List.Sums.{sum_by_push}
use Rattle.std.specs.List.{AllByRecursion}
use Rattle.call_components.specs.Partition.{Partition}
use Rattle.certificate.specs.declared.pred_text.PredText.{PredText}
use Rattle.certificate.specs.declared.fact.Fact.{Fact}
use Rattle.cti_terms.specs.declared.atom_list.Atom.{Atom}
use Rattle.cti_terms.specs.Listing.{Listing}
use Rattle.linear_rows.specs.declared.multipliers.Multipliers.{Multipliers}
use Rattle.linear_rows.specs.declared.row.Rows.{Rows}
use Rattle.number_tests.specs.declared.level_part.LevelPart.{LevelPart}
use Rattle.fact_reading.specs.Numbered.{facts_from, lines_from, EachFrom, AreEach}
use Rattle.cert_structure.specs.Order.{pred_text, measure_line, falls_line}
use Rattle.cert_structure.specs.Shape.{arity_in, rows_of, rows_of_atoms, items_of, is_recursive, first_of, mappings_of, proofs_of_call, HaveMultipliers, IsLevel}
use Rattle.cert_structure.specs.Walk.{take_level, take_fall, read_level, read_levels, read_call, read_calls}
use Rattle.fact_reading.specs.Walk.{result_map, with_first, read_each, read_next, read_many}
use Rattle.fact_reading.proofs.SectionLemmas.{same_ok, bound, mapped, all_both, all_from, others_from, each_all, all_each, counted_sound, counted_back, many_sound, many_back}
use Rattle.cert_structure.proofs.ContentLemmas.{arity_text, not_same}
use Rattle.cert_structure.proofs.TakeLemmas.{level_taken, level_given, fall_taken, fall_given}

-- places of lists
pub place_behind : {A : Type 0} (xs : List A) (x : A) (ys : List A) → slice_get (xs ++ x ∷ ys) (length xs) ≡ Some x
place_behind [] x ys = refl
place_behind (z ∷ zs) x ys = place_behind zs x ys

pub place_before : {A : Type 0} (xs ys : List A) (i : ℕ) → i < length xs → slice_get (xs ++ ys) i ≡ slice_get xs i
place_before [] ys i h = absurd (omega (arith, h))
place_before (x ∷ xs) ys zero h = refl
place_before (x ∷ xs) ys (suc i) h = place_before xs ys i (omega (arith, h))

pub front : {A : Type 0} (xs ys : List A) → take (length xs) (xs ++ ys) ≡ xs
front [] [] = refl
front [] (y ∷ ys) = refl
front (x ∷ xs) ys = ap (λ zs. x ∷ zs) (front xs ys)

pub one_longer : {A : Type 0} (xs : List A) (x : A) → length (xs ++ x ∷ []) ≡ suc (length xs)
one_longer [] x = refl
one_longer (y ∷ ys) x = ap suc (one_longer ys x)

-- no fact is a level of the predicate
abbrev pub NoLevel : PredText → Fact → Type 0
NoLevel pred f = (i : ℕ) → take_level pred i f ≡ Some None

pub levels_apart : (pred q : PredText) → q ≢ pred → (ls : List LevelPart) → AllByRecursion (NoLevel pred) (lines_from 0 (measure_line q) ls)
unfolding take_level
levels_apart pred q other ls = all_from (NoLevel pred) (λ m l. measure_line q m l ∷ []) (λ m l. (λ i. rw (not_same q pred other) refl, tt)) 0 ls

module _ (p : Listing) (names : List (List ℕ)) (comps : Partition) where
  -- how many levels a predicate has, given those before it
  abbrev pub IsCounted : List (List LevelPart) → ℕ → List LevelPart → Type 0
  IsCounted earlier a x =
      ((is_recursive comps a ≡ false) × (length x ≡ 1))
      ⊎ (((is_recursive comps a ≡ true) × (first_of comps a ≡ a))
      ⊎ ((is_recursive comps a ≡ true) × (first_of comps a ≢ a) × (length x ≡ length (items_of earlier (first_of comps a)))))

  pub level_sound : (earlier : List (List LevelPart)) (a : ℕ) (s t : List Fact) (x : List LevelPart) → read_level p names comps earlier a s ≡ Ok (x, t)
      → (s ≡ lines_from 0 (measure_line (pred_text p names a)) x ++ t) × AllByRecursion (IsLevel (arity_in p a)) x × IsCounted earlier a x
  unfolding read_level
  level_sound earlier a s t x e = go (is_recursive comps a) (first_of comps a == a) refl refl e
    where
      right : AllByRecursion (IsLevel (pred_text p names a).arity) x → AllByRecursion (IsLevel (arity_in p a)) x
      right h = subst (λ n. AllByRecursion (IsLevel n) x) (arity_text p names a) h

      go : (b c : Bool) → is_recursive comps a ≡ b → (first_of comps a == a) ≡ c
          → (if b
          then if c
          then read_many (take_level (pred_text p names a)) 0 s
          else read_each (read_next (take_level (pred_text p names a))) 0 (length (items_of earlier (first_of comps a))) s
          else read_each (read_next (take_level (pred_text p names a))) 0 1 s) ≡ Ok (x, t)
          → (s ≡ lines_from 0 (measure_line (pred_text p names a)) x ++ t) × AllByRecursion (IsLevel (arity_in p a)) x × IsCounted earlier a x
      go true true recursive first read =
          let (whole, all) = many_sound (take_level (pred_text p names a)) (measure_line (pred_text p names a)) _ (level_taken (pred_text p names a)) 0 s t x read in
          (whole, right all, inr (inl (recursive, eqb-true (first_of comps a) a first)))
      go true false recursive first read =
          let (whole, count, all) = counted_sound (take_level (pred_text p names a)) (measure_line (pred_text p names a)) _ (level_taken (pred_text p names a)) 0
          (length (items_of earlier (first_of comps a))) s t x read in
          (whole, right (each_all _ 0 x all), inr (inr (recursive, (λ same. false≢true (sym first ∙ eq-eqb (first_of comps a) a same)), count)))
      go false c recursive first read =
          let (whole, count, all) = counted_sound (take_level (pred_text p names a)) (measure_line (pred_text p names a)) _ (level_taken (pred_text p names a)) 0 1 s t x read in
          (whole, right (each_all _ 0 x all), inl (recursive, count))

  module _ (first_le : (a : ℕ) → a < length p.preds → first_of comps a ≤ a) where
    first_earlier : (a : ℕ) (earlier : List (List LevelPart)) → a < length p.preds → a ≡ length earlier → first_of comps a ≢ a → first_of comps a < length earlier
    first_earlier a earlier within here other = let le = first_le a within in omega (arith, le, here, other)

    pub count_is : (earlier : List (List LevelPart)) (a : ℕ) (x : List LevelPart) (later : List (List LevelPart)) → a < length p.preds → a ≡ length earlier
        → IsCounted earlier a x → length x ≡ mappings_of comps (earlier ++ x ∷ later) a
    count_is earlier a x later within here (inl h) = rw h.0 h.1
    count_is earlier a x later within here (inr (inl h)) = rw (h.0, h.1, here, place_behind earlier x later) refl
    count_is earlier a x later within here (inr (inr h)) =
        rw (h.0, place_before earlier (x ∷ later) (first_of comps a) (first_earlier a earlier within here h.1)) h.2

    abbrev pub IsLevels : List (List LevelPart) → ℕ → List LevelPart → Type 0
    IsLevels levels a ls = (length ls ≡ mappings_of comps levels a) × AllByRecursion (IsLevel (arity_in p a)) ls

    abbrev lines_of : ℕ → List LevelPart → List Fact
    lines_of a ls = lines_from 0 (measure_line (pred_text p names a)) ls

    pub levels_sound : (n : ℕ) (earlier : List (List LevelPart)) (a : ℕ) (s t : List Fact) (levels : List (List LevelPart)) → a ≡ length earlier → a + n ≤ length p.preds
        → read_levels p names comps earlier a n s ≡ Ok (levels, t)
        → (xs : List (List LevelPart)) × (levels ≡ earlier ++ xs) × (length xs ≡ n) × (s ≡ facts_from a (λ a ls. lines_from 0 (measure_line (pred_text p names a)) ls) xs ++ t)
        × EachFrom a (IsLevels levels) xs
    unfolding read_levels
    levels_sound zero earlier a s t levels here fits e =
        let both : (earlier, s) ≡ (levels, t) = same_ok _ _ e in
        let first : earlier ≡ levels = ap (λ q. q.0) both in
        let rest : s ≡ t = ap (λ q. q.1) both in
        ([], sym first ∙ sym (append-nil earlier), refl, rest, tt)
    levels_sound (suc n) earlier a s t levels here fits e =
        bound (λ x. read_levels p names comps (earlier ++ x.0 ∷ []) (suc a) n x.1) (read_level p names comps earlier a s) (levels, t) e λ q read more.
        let (one, right, counted) = level_sound earlier a s q.1 q.0 read in
        let next : suc a ≡ length (earlier ++ q.0 ∷ []) = ap suc here ∙ sym (one_longer earlier q.0) in
        let (ys, all, count, others, each) = levels_sound n (earlier ++ q.0 ∷ []) (suc a) q.1 t levels next (omega (arith, fits)) more in
        let whole : levels ≡ earlier ++ q.0 ∷ ys = all ∙ append_assoc earlier (q.0 ∷ []) ys in
        let mine : length q.0 ≡ mappings_of comps levels a = count_is earlier a q.0 ys (omega (arith, fits)) here counted ∙ ap (λ ls. mappings_of comps ls a) (sym whole) in (
          q.0 ∷ ys,
          whole,
          ap suc count,
          one ∙ ap (λ u. lines_of a q.0 ++ u) others ∙ sym (append_assoc (lines_of a q.0) (facts_from (suc a) lines_of ys) t),
          ((mine, right), each),
        )

    level_back : (earlier : List (List LevelPart)) (a : ℕ) (x : List LevelPart) (later : List (List LevelPart)) (t : List Fact) → a < length p.preds → a ≡ length earlier
        → IsLevels (earlier ++ x ∷ later) a x → AllByRecursion (NoLevel (pred_text p names a)) t
        → read_level p names comps earlier a (lines_of a x ++ t) ≡ Ok (x, t)
    unfolding read_level
    level_back earlier a x later t within here h others = go (is_recursive comps a) (first_of comps a == a) refl refl h.0
      where
        all : AllByRecursion (IsLevel (pred_text p names a).arity) x
        all = subst (λ n. AllByRecursion (IsLevel n) x) (sym (arity_text p names a)) h.1

        go : (b c : Bool) → is_recursive comps a ≡ b → (first_of comps a == a) ≡ c
            → length x ≡ (if b then length (items_of (earlier ++ x ∷ later) (first_of comps a)) else 1)
            → (if b
            then if c
            then read_many (take_level (pred_text p names a)) 0 (lines_of a x ++ t)
            else read_each (read_next (take_level (pred_text p names a))) 0 (length (items_of earlier (first_of comps a))) (lines_of a x ++ t)
            else read_each (read_next (take_level (pred_text p names a))) 0 1 (lines_of a x ++ t)) ≡ Ok (x, t)
        go true true recursive first count =
            many_back (take_level (pred_text p names a)) (measure_line (pred_text p names a)) _ (level_given (pred_text p names a)) 0 x t all others
        go true false recursive first count =
            let other : first_of comps a ≢ a = λ same. false≢true (sym first ∙ eq-eqb (first_of comps a) a same) in
            let before = place_before earlier (x ∷ later) (first_of comps a) (first_earlier a earlier within here other) in
            counted_back (take_level (pred_text p names a)) (measure_line (pred_text p names a)) _ (level_given (pred_text p names a)) 0
            (length (items_of earlier (first_of comps a))) x t (rw before at count) (all_each _ 0 x all)
        go false c recursive first count =
            counted_back (take_level (pred_text p names a)) (measure_line (pred_text p names a)) _ (level_given (pred_text p names a)) 0 1 x t count (all_each _ 0 x all)

    module _ (apart : (a b : ℕ) → a < b → b < length p.preds → pred_text p names b ≢ pred_text p names a) where
      pub levels_back : (n : ℕ) (earlier : List (List LevelPart)) (a : ℕ) (xs : List (List LevelPart)) (t : List Fact) (levels : List (List LevelPart)) → a ≡ length earlier
          → a + n ≤ length p.preds → length xs ≡ n → levels ≡ earlier ++ xs → EachFrom a (IsLevels levels) xs
          → ((b : ℕ) → AllByRecursion (NoLevel (pred_text p names b)) t)
          → read_levels p names comps earlier a n (facts_from a (λ a ls. lines_from 0 (measure_line (pred_text p names a)) ls) xs ++ t) ≡ Ok (levels, t)
      unfolding read_levels
      levels_back zero earlier a [] t levels here fits count whole each others = rw (whole, append-nil earlier) refl
      levels_back zero earlier a (x ∷ xs) t levels here fits count whole each others = absurd (omega (arith, count))
      levels_back (suc n) earlier a [] t levels here fits count whole each others = absurd (omega (arith, count))
      levels_back (suc n) earlier a (x ∷ xs) t levels here fits count whole each others =
          let fewer : length xs ≡ n = omega (arith, count) in
          let mine : IsLevels (earlier ++ x ∷ xs) a x = subst (λ ls. IsLevels ls a x) whole each.0 in
          let behind = others_from (NoLevel (pred_text p names a)) lines_of (length p.preds) a (λ b ls below within. levels_apart (pred_text p names a) (pred_text p names b) (apart a b below within) ls)
          (suc a) xs (omega arith) (omega (arith, fits, fewer)) in
          let next : suc a ≡ length (earlier ++ x ∷ []) = ap suc here ∙ sym (one_longer earlier x) in
          rw (
            append_assoc (lines_of a x) (facts_from (suc a) lines_of xs) t,
            level_back earlier a x xs (facts_from (suc a) lines_of xs ++ t) (omega (arith, fits)) here mine (all_both (NoLevel (pred_text p names a)) (facts_from (suc a) lines_of xs) t behind (others a)),
          )
          (levels_back n (earlier ++ x ∷ []) (suc a) xs t levels next (omega (arith, fits)) fewer (whole ∙ sym (append_assoc earlier (x ∷ []) xs)) each.1 others)

-- the rows of one atom more
pub rows_more : (rows : List Rows) (bs : List Atom) (b : Atom) → rows_of_atoms rows (bs ++ b ∷ []) ≡ rows_of_atoms rows bs + rows_of rows b.pred.0
rows_more rows bs b = sum_by_push (λ (c : Atom). rows_of rows c.pred.0) bs b

module _ (comps : Partition) (rows : List Rows) (levels : List (List LevelPart)) (head k : ℕ) where
  -- the proofs for a call of a body
  abbrev pub IsCall : List Atom → ℕ → List Multipliers → Type 0
  IsCall body j ms = AreEach (proofs_of_call comps levels head (slice_get body j)) (λ _. HaveMultipliers (rows_of_atoms rows (take j body))) ms

  abbrev call_lines : ℕ → List Multipliers → List Fact
  call_lines j ms = lines_from 0 (falls_line k j) ms

  pub calls_sound : (bs done : List Atom) (body : List Atom) (j before : ℕ) (s t : List Fact) (calls : List (List Multipliers)) → body ≡ done ++ bs → j ≡ length done
      → before ≡ rows_of_atoms rows done → read_calls comps rows levels head k j before bs s ≡ Ok (calls, t)
      → (s ≡ facts_from j (λ j ms. lines_from 0 (falls_line k j) ms) calls ++ t) × (length calls ≡ length bs) × EachFrom j (IsCall body) calls
  unfolding read_calls read_call
  calls_sound [] done body j before s t calls whole here sum e =
      let both : ([], s) ≡ (calls, t) = same_ok _ _ e in
      let first : [] ≡ calls = ap (λ q. q.0) both in
      let rest : s ≡ t = ap (λ q. q.1) both in
      rw (← first, ← rest) (refl, refl, tt)
  calls_sound (b ∷ bs) done body j before s t calls whole here sum e =
      bound (λ x. result_map (with_first x.0) (read_calls comps rows levels head k (suc j) (before + rows_of rows b.pred.0) bs x.1))
      (read_call comps levels head k j before (Some b) s) (calls, t) e λ q read more.
      mapped (with_first q.0) (read_calls comps rows levels head k (suc j) (before + rows_of rows b.pred.0) bs q.1) (calls, t) more λ r rest both.
      let (one, count, all) = counted_sound (take_fall k j before) (falls_line k j) _ (fall_taken k j before) 0 (proofs_of_call comps levels head (Some b)) s q.1 q.0 read in
      let at : slice_get body j ≡ Some b = rw (whole, here) (place_behind done b bs) in
      let taken : take j body ≡ done = rw (whole, here) (front done (b ∷ bs)) in
      let mine : IsCall body j q.0 = record { count = rw at count; each = rw (taken, ← sum) all } in
      let (others, fewer, each) = calls_sound bs (done ++ b ∷ []) body (suc j) (before + rows_of rows b.pred.0) q.1 r.1 r.0 (whole ∙ sym (append_assoc done (b ∷ []) bs))
      (ap suc here ∙ sym (one_longer done b)) (ap (λ n. n + rows_of rows b.pred.0) sum ∙ sym (rows_more rows done b)) rest in
      let first : q.0 ∷ r.0 ≡ calls = ap (λ z. z.0) both in
      let end : r.1 ≡ t = ap (λ z. z.1) both in
      rw (← first, ← end)
      (one ∙ ap (λ u. call_lines j q.0 ++ u) others ∙ sym (append_assoc (call_lines j q.0) (facts_from (suc j) call_lines r.0) r.1), ap suc fewer, (mine, each))

  pub calls_back : (bs done : List Atom) (body : List Atom) (j before : ℕ) (t : List Fact) (calls : List (List Multipliers)) → body ≡ done ++ bs → j ≡ length done
      → before ≡ rows_of_atoms rows done → length calls ≡ length bs → EachFrom j (IsCall body) calls
      → read_calls comps rows levels head k j before bs (facts_from j (λ j ms. lines_from 0 (falls_line k j) ms) calls ++ t) ≡ Ok (calls, t)
  unfolding read_calls read_call
  calls_back [] done body j before t [] whole here sum count each = refl
  calls_back [] done body j before t (ms ∷ calls) whole here sum count each = absurd (omega (arith, count))
  calls_back (b ∷ bs) done body j before t [] whole here sum count each = absurd (omega (arith, count))
  calls_back (b ∷ bs) done body j before t (ms ∷ calls) whole here sum count each =
      let at : slice_get body j ≡ Some b = rw (whole, here) (place_behind done b bs) in
      let taken : take j body ≡ done = rw (whole, here) (front done (b ∷ bs)) in
      let mine_count : length ms ≡ proofs_of_call comps levels head (Some b) = rw at at each.0.count in
      let mine_each : EachFrom 0 (λ _. HaveMultipliers before) ms = rw (taken, ← sum) at each.0.each in
      rw (
        append_assoc (call_lines j ms) (facts_from (suc j) call_lines calls) t,
        counted_back (take_fall k j before) (falls_line k j) _ (fall_given k j before) 0 (proofs_of_call comps levels head (Some b)) ms (facts_from (suc j) call_lines calls ++ t) mine_count mine_each,
        calls_back bs (done ++ b ∷ []) body (suc j) (before + rows_of rows b.pred.0) t calls (whole ∙ sym (append_assoc done (b ∷ []) bs))
            (ap suc here ∙ sym (one_longer done b)) (ap (λ n. n + rows_of rows b.pred.0) sum ∙ sym (rows_more rows done b)) (omega (arith, count)) each.1,
      ) refl
