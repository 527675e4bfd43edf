-- Reading the lists of predicates: what is read is listed so, and what is listed so is read.
use Rattle.std.proofs.Common.{◌≡◌, ◌≢◌, ℕ, zero, suc, ◌+◌, ◌<◌, ◌≤◌, ◌⊎◌, inl, inr, Bool, true, false, ◌==◌, if◌then◌else◌, List, [], ◌∷◌, ◌++◌, map, length, unwrap_or, Some, None, Ok, refl, ap, ap₂, sym, ◌∙◌, subst, arith, eqb-true, eq-eqb, ne_eqb, append_assoc, append-nil}
use Rattle.std.proofs.lemmas.Bool.{false≢true}
use Rattle.std.specs.List.{AllByRecursion}
use Rattle.call_components.specs.Partition.{Partition}
use Rattle.cert_structure.specs.Order.{pred_text}
use Rattle.cert_structure.specs.Shape.{items_of, is_recursive, first_of}
use Rattle.cert_structure.proofs.LevelLemmas.{place_behind, place_before, one_longer}
use Rattle.cert_structure.proofs.ContentLemmas.{same_itself, not_same}
use Rattle.certificate.specs.declared.pred_text.PredText.{PredText}
use Rattle.cti_terms.specs.Listing.{Listing}
use Rattle.fact_reading.specs.Numbered.{facts_from, lines_from, EachFrom}
use Rattle.fact_reading.specs.Walk.{with_first, read_each, read_next, read_many}
use Rattle.fact_reading.proofs.SectionLemmas.{same_ok, bound, mapped, all_both, all_from, others_from, all_weaker, each_weaker, each_all, all_each, counted_sound, counted_back, many_sound, many_back, each_sound, each_back}
use Rattle.number_tests.specs.declared.level_part.LevelPart.{LevelPart}
use Rattle.prove_certificate.specs.declared.fact.ProveFact.{ProveFact}
use Rattle.prove_parts.specs.Order.{level_line}
use Rattle.lex_certificate.specs.Shape.{lengths_of}
use Rattle.prove_certificate.specs.declared.kind.CertKind.{CertKind}
use Rattle.prove_parts.specs.Shape.{columns_in, AreLists, IsMeasure}
use Rattle.prove_structure.specs.Walk.{take_level, more_lists, read_lists, read_like, read_one, read_own, read_levels}
use Rattle.prove_structure.proofs.TakeLemmas.{level_taken, level_given}

pub heads : {A : Type 0} (x y : A) (xs ys : List A) → x ∷ xs ≡ y ∷ ys → x ≡ y
heads x y xs ys e = cc

pub tails : {A : Type 0} (x y : A) (xs ys : List A) → x ∷ xs ≡ y ∷ ys → xs ≡ ys
tails x y xs ys e = cc

pub free : (u : List ProveFact) → AllByRecursion (λ (f : ProveFact). Unit {0}) u
free [] = tt
free (f ∷ u) = (tt, free u)

-- the item behind others
item_behind : {A : Type 0} (xs : List (List A)) (x : List A) (ys : List (List A)) → items_of (xs ++ x ∷ ys) (length xs) ≡ x
item_behind xs x ys = ap (λ o. unwrap_or o []) (place_behind xs x ys)

item_before : {A : Type 0} (xs ys : List (List A)) (i : ℕ) → i < length xs → items_of (xs ++ ys) i ≡ items_of xs i
item_before xs ys i h = ap (λ o. unwrap_or o []) (place_before xs ys i h)

-- lists that have a measure
abbrev pub HasFirst : List LevelPart → Type 0
HasFirst ls = 1 ≤ length ls

abbrev pub HaveFirst : List (List LevelPart) → Type 0
HaveFirst own = AllByRecursion HasFirst own

lengths_some : (own : List (List LevelPart)) → HaveFirst own → AllByRecursion (λ (n : ℕ). 1 ≤ n) (map length own)
lengths_some [] h = tt
lengths_some (ls ∷ own) h = (h.0, lengths_some own h.1)

some_back : (own : List (List LevelPart)) → AllByRecursion (λ (n : ℕ). 1 ≤ n) (map length own) → HaveFirst own
some_back [] h = tt
some_back (ls ∷ own) h = (h.0, some_back own h.1)

items_some : (lists : List (List (List LevelPart))) (i : ℕ) → AllByRecursion HaveFirst lists → HaveFirst (items_of lists i)
items_some [] i h = tt
items_some (own ∷ lists) zero h = h.0
items_some (own ∷ lists) (suc i) h = items_some lists i h.1

counts : (xs ys : List (List LevelPart)) → map length xs ≡ map length ys → length xs ≡ length ys
counts [] [] e = refl
counts [] (y ∷ ys) e = absurd (cc e)
counts (x ∷ xs) [] e = absurd (cc e)
counts (x ∷ xs) (y ∷ ys) e = ap suc (counts xs ys (tails (length x) (length y) (map length xs) (map length ys) e))

-- lists with as many measures as those of another predicate
abbrev IsAlike : List (List LevelPart) → ℕ → List LevelPart → Type 0
IsAlike like m ls = length ls ≡ length (items_of like m)

alike : (like before rest xs : List (List LevelPart)) (i : ℕ) → like ≡ before ++ rest → i ≡ length before → length xs ≡ length rest → EachFrom i (IsAlike like) xs → map length xs ≡ map length rest
alike like before [] [] i whole here count each = refl
alike like before [] (x ∷ xs) i whole here count each = absurd (omega (arith, count))
alike like before (r ∷ rest) [] i whole here count each = absurd (omega (arith, count))
alike like before (r ∷ rest) (x ∷ xs) i whole here count each =
    let at : items_of like i ≡ r = rw (whole, here) (item_behind before r rest) in
    ap₂ (λ n ns. n ∷ ns) (each.0 ∙ ap length at)
    (alike like (before ++ r ∷ []) rest xs (suc i) (whole ∙ sym (append_assoc before (r ∷ []) rest)) (ap suc here ∙ sym (one_longer before r)) (omega (arith, count)) each.1)

alike_back : (P : List LevelPart → Type 0) (like before rest xs : List (List LevelPart)) (i : ℕ) → like ≡ before ++ rest → i ≡ length before → map length xs ≡ map length rest
    → AllByRecursion P xs → EachFrom i (λ m ls. IsAlike like m ls × P ls) xs
alike_back P like before [] [] i whole here same all = tt
alike_back P like before [] (x ∷ xs) i whole here same all = absurd (cc same)
alike_back P like before (r ∷ rest) [] i whole here same all = tt
alike_back P like before (r ∷ rest) (x ∷ xs) i whole here same all =
    let at : items_of like i ≡ r = rw (whole, here) (item_behind before r rest) in
    let one : length x ≡ length r = heads (length x) (length r) (map length xs) (map length rest) same in (
      (one ∙ ap length (sym at), all.0),
      alike_back P like (before ++ r ∷ []) rest xs (suc i) (whole ∙ sym (append_assoc before (r ∷ []) rest)) (ap suc here ∙ sym (one_longer before r))
          (tails (length x) (length r) (map length xs) (map length rest) same) all.1,
    )

-- the facts of a list, and of lists
abbrev pub list_lines : PredText → ℕ → List LevelPart → List ProveFact
list_lines pred m ls = lines_from 0 (level_line pred m) ls

-- no fact is a level of the predicate
abbrev pub NoLevel : PredText → ProveFact → Type 0
NoLevel pred f = (width m i : ℕ) → take_level pred width m i f ≡ Some None

pub levels_apart : (pred q : PredText) → q ≢ pred → (own : List (List LevelPart)) → AllByRecursion (NoLevel pred) (facts_from 0 (λ m ls. lines_from 0 (level_line q m) ls) own)
unfolding take_level
levels_apart pred q other own =
    all_from (NoLevel pred) (λ m ls. lines_from 0 (level_line q m) ls)
    (λ m ls. all_from (NoLevel pred) (λ i l. level_line q m i l ∷ []) (λ i l. (λ width n j. rw (not_same q pred other) refl, tt)) 0 ls) 0 own

-- nor of this list, where it is one of a later list
later_list : (pred : PredText) (width m n : ℕ) → m < n → (ls : List LevelPart) → AllByRecursion (λ f. (i : ℕ) → take_level pred width m i f ≡ Some None) (lines_from 0 (level_line pred n) ls)
unfolding take_level
later_list pred width m n less ls =
    all_from (λ f. (i : ℕ) → take_level pred width m i f ≡ Some None) (λ k l. level_line pred n k l ∷ [])
    (λ k l. (λ i. rw (same_itself pred, ne_eqb (suc n) (suc m) (λ same. absurd (omega (arith, same, less)))) refl, tt)) 0 ls

later_lists : (pred : PredText) (width m n : ℕ) → m < n → (own : List (List LevelPart))
    → AllByRecursion (λ f. (i : ℕ) → take_level pred width m i f ≡ Some None) (facts_from n (λ m ls. lines_from 0 (level_line pred m) ls) own)
later_lists pred width m n less [] = tt
later_lists pred width m n less (ls ∷ own) =
    all_both (λ f. (i : ℕ) → take_level pred width m i f ≡ Some None) (lines_from 0 (level_line pred n) ls) (facts_from (suc n) (λ m ls. lines_from 0 (level_line pred m) ls) own)
    (later_list pred width m n less ls) (later_lists pred width m (suc n) (omega (arith, less)) own)

module _ (pred : PredText) (width : ℕ) where
  -- a list of levels, which has a measure
  abbrev pub IsFull : List LevelPart → Type 0
  IsFull ls = HasFirst ls × AllByRecursion (IsMeasure width) ls

  open_sound : (n m : ℕ) (s t : List ProveFact) (xs : List (List LevelPart)) → read_lists pred width m n s ≡ Ok (xs, t)
      → (s ≡ facts_from m (λ m ls. lines_from 0 (level_line pred m) ls) xs ++ t) × AllByRecursion IsFull xs
  unfolding read_lists
  open_sound zero m s t xs e =
      let both : ([], s) ≡ (xs, t) = same_ok _ _ e in
      let first : [] ≡ xs = ap (λ q. q.0) both in
      let rest : s ≡ t = ap (λ q. q.1) both in
      rw (← first, ← rest) (refl, tt)
  open_sound (suc n) m s t xs e =
      bound (λ x. more_lists (λ u. read_lists pred width (suc m) n u) x.0 x.1) (read_many (take_level pred width m) 0 s) (xs, t) e λ q read more.
      let (one, right) = many_sound (take_level pred width m) (level_line pred m) _ (level_taken pred width m) 0 s q.1 q.0 read in
      go (open_sound n (suc m)) q.0 q.1 one right more
    where
      go : ((u v : List ProveFact) (ys : List (List LevelPart)) → read_lists pred width (suc m) n u ≡ Ok (ys, v)
          → (u ≡ facts_from (suc m) (λ m ls. lines_from 0 (level_line pred m) ls) ys ++ v) × AllByRecursion IsFull ys)
          → (ls : List LevelPart) (u : List ProveFact) → s ≡ lines_from 0 (level_line pred m) ls ++ u → AllByRecursion (IsMeasure width) ls
          → more_lists (λ v. read_lists pred width (suc m) n v) ls u ≡ Ok (xs, t)
          → (s ≡ facts_from m (λ m ls. lines_from 0 (level_line pred m) ls) xs ++ t) × AllByRecursion IsFull xs
      go again [] u one right more =
          let both : ([], u) ≡ (xs, t) = same_ok _ _ more in
          let first : [] ≡ xs = ap (λ q. q.0) both in
          let rest : u ≡ t = ap (λ q. q.1) both in
          rw (← first, ← rest) (one, tt)
      go again (l ∷ ls) u one right more =
          mapped (with_first (l ∷ ls)) (read_lists pred width (suc m) n u) (xs, t) more λ r here both.
          let (others, all) = again u r.1 r.0 here in
          let first : (l ∷ ls) ∷ r.0 ≡ xs = ap (λ z. z.0) both in
          let rest : r.1 ≡ t = ap (λ z. z.1) both in
          rw (← first, ← rest) (
            one ∙ ap (λ z. list_lines pred m (l ∷ ls) ++ z) others
                ∙ sym (append_assoc (list_lines pred m (l ∷ ls)) (facts_from (suc m) (λ m ls. lines_from 0 (level_line pred m) ls) r.0) r.1),
            ((omega arith, right), all),
          )

  open_back : (n m : ℕ) (xs : List (List LevelPart)) (t : List ProveFact) → length xs ≤ n → AllByRecursion IsFull xs → AllByRecursion (NoLevel pred) t
      → read_lists pred width m n (facts_from m (λ m ls. lines_from 0 (level_line pred m) ls) xs ++ t) ≡ Ok (xs, t)
  unfolding read_lists
  open_back zero m [] t fits full others = refl
  open_back zero m (x ∷ xs) t fits full others = absurd (omega (arith, fits))
  open_back (suc n) m [] t fits full others =
      let none = all_weaker (NoLevel pred) (λ f. (i : ℕ) → take_level pred width m i f ≡ Some None) (λ f h. h width m) t others in
      rw (many_back (take_level pred width m) (level_line pred m) _ (level_given pred width m) 0 [] t tt none) refl
  open_back (suc n) m ([] ∷ xs) t fits full others = let none = full.0.0 in absurd (omega (arith, none))
  open_back (suc n) m ((l ∷ ls) ∷ xs) t fits full others =
      let none = all_weaker (NoLevel pred) (λ f. (i : ℕ) → take_level pred width m i f ≡ Some None) (λ f h. h width m) t others in
      let behind = all_both (λ f. (i : ℕ) → take_level pred width m i f ≡ Some None) (facts_from (suc m) (λ m ls. lines_from 0 (level_line pred m) ls) xs) t
      (later_lists pred width m (suc m) (omega arith) xs) none in
      rw (
        append_assoc (list_lines pred m (l ∷ ls)) (facts_from (suc m) (λ m ls. lines_from 0 (level_line pred m) ls) xs) t,
        many_back (take_level pred width m) (level_line pred m) _ (level_given pred width m) 0 (l ∷ ls) (facts_from (suc m) (λ m ls. lines_from 0 (level_line pred m) ls) xs ++ t) full.0.1 behind,
        open_back n (suc m) xs t (omega (arith, fits)) full.1 others,
      ) refl

  -- there are as many facts as lists at least
  enough : (m : ℕ) (xs : List (List LevelPart)) (t : List ProveFact) → AllByRecursion IsFull xs → length xs ≤ length (facts_from m (λ m ls. lines_from 0 (level_line pred m) ls) xs ++ t)
  enough m [] t full = omega arith
  enough m ([] ∷ xs) t full = let none = full.0.0 in absurd (omega (arith, none))
  enough m ((l ∷ ls) ∷ xs) t full =
      let more = enough (suc m) xs t full.1 in
      let rest = longer (lines_from 1 (level_line pred m) ls) (facts_from (suc m) (λ m ls. lines_from 0 (level_line pred m) ls) xs) t in
      omega (arith, more, rest)
    where
      longer : (xs ys zs : List ProveFact) → length (ys ++ zs) ≤ length ((xs ++ ys) ++ zs)
      longer [] ys zs = omega arith
      longer (x ∷ xs) ys zs = let h = longer xs ys zs in omega (arith, h)

  like_sound : (like : List (List LevelPart)) (s t : List ProveFact) (xs : List (List LevelPart)) → read_like pred width like s ≡ Ok (xs, t)
      → (s ≡ facts_from 0 (λ m ls. lines_from 0 (level_line pred m) ls) xs ++ t) × (map length xs ≡ map length like) × AllByRecursion (AllByRecursion (IsMeasure width)) xs
  unfolding read_like
  like_sound like s t xs e =
      let (whole, count, each) = each_sound (λ m u. read_each (read_next (take_level pred width m)) 0 (length (items_of like m)) u) (λ m ls. lines_from 0 (level_line pred m) ls)
      (λ m ls. IsAlike like m ls × AllByRecursion (IsMeasure width) ls)
      (λ m s t x read.
      let (one, count, all) = counted_sound (take_level pred width m) (level_line pred m) _ (level_taken pred width m) 0 (length (items_of like m)) s t x read in
      (one, (count, each_all _ 0 x all)))
      0 (length like) s t xs e in (
        whole,
        alike like [] like xs 0 refl refl count (each_weaker _ _ (length xs) (λ m ls below h. h.0) 0 xs (omega arith) each),
        each_all _ 0 xs (each_weaker _ (λ _ ls. AllByRecursion (IsMeasure width) ls) (length xs) (λ m ls below h. h.1) 0 xs (omega arith) each),
      )

  like_back : (like : List (List LevelPart)) (xs : List (List LevelPart)) (t : List ProveFact) → map length xs ≡ map length like → AllByRecursion (AllByRecursion (IsMeasure width)) xs
      → read_like pred width like (facts_from 0 (λ m ls. lines_from 0 (level_line pred m) ls) xs ++ t) ≡ Ok (xs, t)
  unfolding read_like
  like_back like xs t same all =
      each_back (λ m u. read_each (read_next (take_level pred width m)) 0 (length (items_of like m)) u) (λ m ls. lines_from 0 (level_line pred m) ls)
      (λ m ls. IsAlike like m ls × AllByRecursion (IsMeasure width) ls) (λ m f. Unit {0}) (length like)
      (λ m x t below right none. counted_back (take_level pred width m) (level_line pred m) _ (level_given pred width m) 0 (length (items_of like m)) x t right.0 (all_each _ 0 x right.1))
      (λ a b x less below. free (lines_from 0 (level_line pred b) x))
      0 (length like) xs t (counts xs like same) (omega arith) (alike_back (AllByRecursion (IsMeasure width)) like [] like xs 0 refl refl same all) (λ j below. free t)

  one_sound : (s t : List ProveFact) (xs : List (List LevelPart)) → read_one pred width s ≡ Ok (xs, t)
      → (s ≡ facts_from 0 (λ m ls. lines_from 0 (level_line pred m) ls) xs ++ t) × (map length xs ≡ 1 ∷ []) × AllByRecursion (AllByRecursion (IsMeasure width)) xs
  unfolding read_one
  one_sound s t xs e =
      mapped alone (read_each (read_next (take_level pred width 0)) 0 1 s) (xs, t) e λ q read both.
      let (one, count, all) = counted_sound (take_level pred width 0) (level_line pred 0) _ (level_taken pred width 0) 0 1 s q.1 q.0 read in
      let first : q.0 ∷ [] ≡ xs = ap (λ z. z.0) both in
      let rest : q.1 ≡ t = ap (λ z. z.1) both in
      rw (← first, ← rest) (one ∙ ap (λ u. u ++ q.1) (sym (append-nil (list_lines pred 0 q.0))), ap (λ n. n ∷ []) count, (each_all _ 0 q.0 all, tt))
    where
      alone : List LevelPart × List ProveFact → List (List LevelPart) × List ProveFact
      alone x = (x.0 ∷ [], x.1)

  one_back : (xs : List (List LevelPart)) (t : List ProveFact) → map length xs ≡ 1 ∷ [] → AllByRecursion (AllByRecursion (IsMeasure width)) xs
      → read_one pred width (facts_from 0 (λ m ls. lines_from 0 (level_line pred m) ls) xs ++ t) ≡ Ok (xs, t)
  unfolding read_one
  one_back [] t same all = absurd (cc same)
  one_back (ls ∷ []) t same all =
      let count : length ls ≡ 1 = heads (length ls) 1 [] [] same in
      rw (append-nil (list_lines pred 0 ls), counted_back (take_level pred width 0) (level_line pred 0) _ (level_given pred width 0) 0 1 ls t count (all_each _ 0 ls all.0)) refl
  one_back (ls ∷ r ∷ rest) t same all = let bad : length r ∷ map length rest ≡ [] = tails (length ls) 1 (length r ∷ map length rest) [] same in absurd (cc bad)

module _ (p : Listing) (names : List (List ℕ)) (comps : Partition) (kinds : List (List CertKind)) where
  abbrev text : ℕ → PredText
  text a = pred_text p names a

  -- how long the lists of a predicate are, given those before it
  abbrev IsCounted : List (List (List LevelPart)) → ℕ → List (List LevelPart) → Type 0
  IsCounted earlier a x =
      ((is_recursive comps a ≡ false) × (map length x ≡ 1 ∷ []))
      ⊎ (((is_recursive comps a ≡ true) × (first_of comps a ≡ a) × HaveFirst x)
      ⊎ ((is_recursive comps a ≡ true) × (first_of comps a ≢ a) × (map length x ≡ map length (items_of earlier (first_of comps a)))))

  abbrev own_lines : ℕ → List (List LevelPart) → List ProveFact
  own_lines a own = facts_from 0 (λ m ls. lines_from 0 (level_line (pred_text p names a) m) ls) own

  own_sound : (earlier : List (List (List LevelPart))) (a : ℕ) (s t : List ProveFact) (x : List (List LevelPart)) → read_own p names comps kinds earlier a s ≡ Ok (x, t)
      → (s ≡ own_lines a x ++ t) × AllByRecursion (AllByRecursion (IsMeasure (columns_in kinds a))) x × IsCounted earlier a x
  unfolding read_own
  own_sound earlier a s t x e = go (is_recursive comps a) (first_of comps a == a) refl refl e
    where
      go : (b c : Bool) → is_recursive comps a ≡ b → (first_of comps a == a) ≡ c
          → (if b
          then if c
          then read_lists (text a) (columns_in kinds a) 0 (length s) s
          else read_like (text a) (columns_in kinds a) (items_of earlier (first_of comps a)) s
          else read_one (text a) (columns_in kinds a) s) ≡ Ok (x, t)
          → (s ≡ own_lines a x ++ t) × AllByRecursion (AllByRecursion (IsMeasure (columns_in kinds a))) x × IsCounted earlier a x
      go true true recursive first read =
          let (whole, all) = open_sound (text a) (columns_in kinds a) (length s) 0 s t x read in (
            whole,
            all_weaker (IsFull (text a) (columns_in kinds a)) (AllByRecursion (IsMeasure (columns_in kinds a))) (λ ls h. h.1) x all,
            inr (inl (recursive, eqb-true (first_of comps a) a first, all_weaker (IsFull (text a) (columns_in kinds a)) HasFirst (λ ls h. h.0) x all)),
          )
      go true false recursive first read =
          let (whole, same, all) = like_sound (text a) (columns_in kinds a) (items_of earlier (first_of comps a)) s t x read in
          (whole, all, inr (inr (recursive, (λ same. false≢true (sym first ∙ eq-eqb (first_of comps a) a same)), same)))
      go false c recursive first read =
          let (whole, same, all) = one_sound (text a) (columns_in kinds a) s t x read in
          (whole, all, inl (recursive, same))

  -- the lists of one have a first measure where those of the ones before it have
  counted_some : (earlier : List (List (List LevelPart))) (a : ℕ) (x : List (List LevelPart)) → AllByRecursion HaveFirst earlier → IsCounted earlier a x → HaveFirst x
  counted_some earlier a x before (inl h) = some_back x (rw h.1 (omega arith, tt))
  counted_some earlier a x before (inr (inl h)) = h.2
  counted_some earlier a x before (inr (inr h)) = some_back x (rw h.2 (lengths_some (items_of earlier (first_of comps a)) (items_some earlier (first_of comps a) before)))

  module _ (first_le : (a : ℕ) → a < length p.preds → first_of comps a ≤ a) where
    first_earlier : (a : ℕ) (earlier : List (List (List LevelPart))) → a < length p.preds → a ≡ length earlier → first_of comps a ≢ a → first_of comps a < length earlier
    first_earlier a earlier within here other = let le = first_le a within in omega (arith, le, here, other)

    count_is : (earlier : List (List (List LevelPart))) (a : ℕ) (x : List (List LevelPart)) (later : List (List (List LevelPart))) → a < length p.preds → a ≡ length earlier
        → IsCounted earlier a x → map length x ≡ lengths_of comps (earlier ++ x ∷ later) a
    count_is earlier a x later within here (inl h) = rw h.0 h.1
    count_is earlier a x later within here (inr (inl h)) = rw (h.0, h.1, here, item_behind earlier x later) refl
    count_is earlier a x later within here (inr (inr h)) =
        rw (h.0, item_before earlier (x ∷ later) (first_of comps a) (first_earlier a earlier within here h.1)) h.2

    abbrev pub IsLists : List (List (List LevelPart)) → ℕ → List (List LevelPart) → Type 0
    IsLists lists a own = AreLists (columns_in kinds a) (lengths_of comps lists a) own

    pub levels_sound : (n : ℕ) (earlier : List (List (List LevelPart))) (a : ℕ) (s t : List ProveFact) (lists : List (List (List LevelPart))) → AllByRecursion HaveFirst earlier
        → a ≡ length earlier → a + n ≤ length p.preds → read_levels p names comps kinds earlier a n s ≡ Ok (lists, t)
        → (xs : List (List (List LevelPart))) × (lists ≡ earlier ++ xs) × (length xs ≡ n)
        × (s ≡ facts_from a (λ a own. facts_from 0 (λ m ls. lines_from 0 (level_line (pred_text p names a) m) ls) own) xs ++ t)
        × EachFrom a (IsLists lists) xs
    unfolding read_levels
    levels_sound zero earlier a s t lists before here fits e =
        let both : (earlier, s) ≡ (lists, t) = same_ok _ _ e in
        let first : earlier ≡ lists = ap (λ q. q.0) both in
        let rest : s ≡ t = ap (λ q. q.1) both in
        ([], sym first ∙ sym (append-nil earlier), refl, rest, tt)
    levels_sound (suc n) earlier a s t lists before here fits e =
        bound (λ x. read_levels p names comps kinds (earlier ++ x.0 ∷ []) (suc a) n x.1) (read_own p names comps kinds earlier a s) (lists, t) e λ q read more.
        let (one, right, counted) = own_sound earlier a s q.1 q.0 read in
        let some = counted_some earlier a q.0 before counted in
        let next : suc a ≡ length (earlier ++ q.0 ∷ []) = ap suc here ∙ sym (one_longer earlier q.0) in
        let (ys, all, count, others, each) = levels_sound n (earlier ++ q.0 ∷ []) (suc a) q.1 t lists (all_both HaveFirst earlier (q.0 ∷ []) before (some, tt)) next (omega (arith, fits)) more in
        let whole : lists ≡ earlier ++ q.0 ∷ ys = all ∙ append_assoc earlier (q.0 ∷ []) ys in
        let mine : map length q.0 ≡ lengths_of comps lists a = count_is earlier a q.0 ys (omega (arith, fits)) here counted ∙ ap (λ ls. lengths_of comps ls a) (sym whole) in (
          q.0 ∷ ys,
          whole,
          ap suc count,
          one ∙ ap (λ u. own_lines a q.0 ++ u) others ∙ sym (append_assoc (own_lines a q.0) (facts_from (suc a) own_lines ys) t),
          (record { each = mine; some = subst (λ ns. AllByRecursion (λ (n : ℕ). 1 ≤ n) ns) mine (lengths_some q.0 some); levels = right }, each),
        )

    own_back : (earlier : List (List (List LevelPart))) (a : ℕ) (x : List (List LevelPart)) (later : List (List (List LevelPart))) (t : List ProveFact) → a < length p.preds
        → a ≡ length earlier → IsLists (earlier ++ x ∷ later) a x → AllByRecursion (NoLevel (pred_text p names a)) t
        → read_own p names comps kinds earlier a (own_lines a x ++ t) ≡ Ok (x, t)
    unfolding read_own
    own_back earlier a x later t within here h others = go (is_recursive comps a) (first_of comps a == a) refl refl h.each
      where
        all : AllByRecursion (AllByRecursion (IsMeasure (columns_in kinds a))) x
        all = h.levels

        full : AllByRecursion (IsFull (text a) (columns_in kinds a)) x
        full = joined x (some_back x (subst (λ ns. AllByRecursion (λ (n : ℕ). 1 ≤ n) ns) (sym h.each) h.some)) all
          where
            joined : (own : List (List LevelPart)) → HaveFirst own → AllByRecursion (AllByRecursion (IsMeasure (columns_in kinds a))) own → AllByRecursion (IsFull (text a) (columns_in kinds a)) own
            joined [] h k = tt
            joined (ls ∷ own) h k = ((h.0, k.0), joined own h.1 k.1)

        go : (b c : Bool) → is_recursive comps a ≡ b → (first_of comps a == a) ≡ c
            → map length x ≡ (if b then map length (items_of (earlier ++ x ∷ later) (first_of comps a)) else 1 ∷ [])
            → (if b
            then if c
            then read_lists (text a) (columns_in kinds a) 0 (length (own_lines a x ++ t)) (own_lines a x ++ t)
            else read_like (text a) (columns_in kinds a) (items_of earlier (first_of comps a)) (own_lines a x ++ t)
            else read_one (text a) (columns_in kinds a) (own_lines a x ++ t)) ≡ Ok (x, t)
        go true true recursive first same = open_back (text a) (columns_in kinds a) (length (own_lines a x ++ t)) 0 x t (enough (text a) (columns_in kinds a) 0 x t full) full others
        go true false recursive first same =
            let other : first_of comps a ≢ a = λ same. false≢true (sym first ∙ eq-eqb (first_of comps a) a same) in
            let before = item_before earlier (x ∷ later) (first_of comps a) (first_earlier a earlier within here other) in
            like_back (text a) (columns_in kinds a) (items_of earlier (first_of comps a)) x t (rw before at same) all
        go false c recursive first same = one_back (text a) (columns_in kinds a) x t same all

    module _ (apart : (a b : ℕ) → a < b → b < length p.preds → pred_text p names b ≢ pred_text p names a) where
      pub levels_back : (n : ℕ) (earlier : List (List (List LevelPart))) (a : ℕ) (xs : List (List (List LevelPart))) (t : List ProveFact) (lists : List (List (List LevelPart)))
          → a ≡ length earlier → a + n ≤ length p.preds → length xs ≡ n → lists ≡ earlier ++ xs → EachFrom a (IsLists lists) xs
          → ((b : ℕ) → AllByRecursion (NoLevel (pred_text p names b)) t)
          → read_levels p names comps kinds earlier a n (facts_from a (λ a own. facts_from 0 (λ m ls. lines_from 0 (level_line (pred_text p names a) m) ls) own) xs ++ t) ≡ Ok (lists, t)
      unfolding read_levels
      levels_back zero earlier a [] t lists here fits count whole each others = rw (whole, append-nil earlier) refl
      levels_back zero earlier a (x ∷ xs) t lists here fits count whole each others = absurd (omega (arith, count))
      levels_back (suc n) earlier a [] t lists here fits count whole each others = absurd (omega (arith, count))
      levels_back (suc n) earlier a (x ∷ xs) t lists here fits count whole each others =
          let fewer : length xs ≡ n = omega (arith, count) in
          let mine : IsLists (earlier ++ x ∷ xs) a x = subst (λ ls. IsLists ls a x) whole each.0 in
          let behind = others_from (NoLevel (pred_text p names a)) own_lines (length p.preds) a (λ b own below within. levels_apart (pred_text p names a) (pred_text p names b) (apart a b below within) own)
          (suc a) xs (omega arith) (omega (arith, fits, fewer)) in
          let next : suc a ≡ length (earlier ++ x ∷ []) = ap suc here ∙ sym (one_longer earlier x) in
          rw (
            append_assoc (own_lines a x) (facts_from (suc a) own_lines xs) t,
            own_back earlier a x xs (facts_from (suc a) own_lines xs ++ t) (omega (arith, fits)) here mine (all_both (NoLevel (pred_text p names a)) (facts_from (suc a) own_lines xs) t behind (others a)),
          )
          (levels_back n (earlier ++ x ∷ []) (suc a) xs t lists next (omega (arith, fits)) fewer (whole ∙ sym (append_assoc earlier (x ∷ []) xs)) each.1 others)
