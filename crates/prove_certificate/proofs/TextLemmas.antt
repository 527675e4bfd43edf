-- What a whole text reads as, for facts of any kind.
use Rattle.std.proofs.Common.{◌≡◌, ◌≢◌, ℕ, suc, ◌<◌, ◌==◌, Bool, true, false, List, [], ◌∷◌, ◌++◌, length, map, Option, Some, None, refl, ap, sym, ◌∙◌, arith, append_assoc, append-nil, eqb-true}
use Rattle.std.proofs.lemmas.List.{length-map, length-append}
use Rattle.std.proofs.lemmas.Bool.{false≢true}
use Rattle.std.proofs.lemmas.Option.{none-some, same_Some}
use Rattle.std.specs.Prelude.{flat_map}
use Rattle.std.specs.List.{AllByRecursion}
use Rattle.certificate.specs.Lines.{lines}
use Rattle.certificate.specs.Parse.{Read, after}
use Rattle.certificate.proofs.LineLemmas.{take_off}
use Rattle.prove_certificate.specs.Lines.{IsFactLine, IsFirstOther}

-- the first line of a text is at its front
abbrev First : List ℕ → Type 0
First rest = (line : List ℕ) × (after : List (List ℕ)) × (s : List ℕ) × (lines rest ≡ line ∷ after) × (rest ≡ line ++ s)

first_line : (b : ℕ) (bs : List ℕ) → First (b ∷ bs)
first_line b [] = go (b == 10) refl
  where
    go : (c : Bool) → (b == 10) ≡ c → First (b ∷ [])
    go true e = (b ∷ [], [], [], rw e refl, refl)
    go false e = (b ∷ [], [], [], rw e refl, refl)
first_line b (c ∷ bs) = go (first_line c bs) (b == 10) refl
  where
    go : First (c ∷ bs) → (d : Bool) → (b == 10) ≡ d → First (b ∷ c ∷ bs)
    go (line, after, s, is, whole) true e = (b ∷ [], lines (c ∷ bs), c ∷ bs, rw e refl, refl)
    go (line, after, s, is, whole) false e = (b ∷ line, after, s, rw (e, is) refl, ap (λ t. b ∷ t) whole)

first_same : (x z : List ℕ) (us vs : List (List ℕ)) → x ∷ us ≡ z ∷ vs → x ≡ z
first_same x z us vs e = cc

rest_same : (x z : List ℕ) (us vs : List (List ℕ)) → x ∷ us ≡ z ∷ vs → us ≡ vs
rest_same x z us vs e = cc

-- what is left is empty or not
pub left_empty : (rest : List ℕ) → true ≡ (length rest == 0) → rest ≡ []
left_empty [] e = refl
left_empty (b ∷ bs) e = let none : suc (length bs) ≡ 0 = eqb-true (suc (length bs)) 0 (sym e) in absurd (omega (arith, none))

pub left_some : (rest : List ℕ) → false ≡ (length rest == 0) → rest ≢ []
left_some [] e same = false≢true e
left_some (b ∷ bs) e same = cc

module _ {F : Type 0} (shown : F → List ℕ) (fits : F → Type 0) (reads : List ℕ → Read F)
    (one_line : (f : F) (s : List ℕ) → fits f → lines (shown f ++ s) ≡ shown f ∷ lines s)
    (back : (f : F) (s : List ℕ) → fits f → reads (shown f ++ s) ≡ Some (f, s)) where
  -- a fact's text is read as that fact and no other
  pub read_same : (f g : F) (s t text : List ℕ) → fits f → text ≡ shown f ++ s → reads text ≡ Some (g, t) → (g ≡ f) × (after (shown g) text ≡ Some s)
  read_same f g s t text h e read =
      let same : f ≡ g = ap (λ p. p.0) (same_Some _ _ (sym (rw (← e) at (back f s h)) ∙ read)) in
      (sym same, rw (← same, e) (take_off (shown f) s))

  pub read_some : (f : F) (s text : List ℕ) → fits f → text ≡ shown f ++ s → reads text ≢ None
  read_some f s text h e none = none-some _ (sym none ∙ (rw (← e) at (back f s h)))

  -- a line has some bytes
  pub some_text : (f : F) (s : List ℕ) → fits f → [] ≢ shown f ++ s
  some_text f s h e =
      let one : lines (shown f ++ s) ≡ shown f ∷ lines s = one_line f s h in
      let none : [] ≡ shown f ∷ lines s = ap lines e ∙ one in
      cc

  -- so a text is longer than what follows its first line
  pub shorter : (f : F) (s text : List ℕ) → fits f → text ≡ shown f ++ s → length s < length text
  shorter f s text h e = go (shown f) refl
    where
      go : (line : List ℕ) → shown f ≡ line → length s < length text
      go [] same = absurd (some_text f [] h (rw same refl))
      go (b ∷ line) same = rw (e, same) (omega (arith, length-append line s))

  -- where the line at the front is not a fact
  abbrev pub Stops : List ℕ → Type 0
  Stops rest = (f : F) (s : List ℕ) → fits f → rest ≢ shown f ++ s

  -- two facts at the front of one text are one
  same_front : (f g : F) (s t : List ℕ) → fits f → fits g → shown f ++ s ≡ shown g ++ t → (f ≡ g) × (s ≡ t)
  same_front f g s t h k e =
      let same = same_Some _ _ (sym (back f s h) ∙ ap reads e ∙ back g t k) in
      (ap (λ p. p.0) same, ap (λ p. p.1) same)

  -- facts that are read up to where it stops are those of the text
  pub all_read : (fs gs : List F) (rest : List ℕ) → AllByRecursion fits fs → AllByRecursion fits gs → flat_map shown fs ++ rest ≡ flat_map shown gs → Stops rest
      → (fs ≡ gs) × (rest ≡ [])
  all_read [] [] rest h k e stops = (refl, e)
  all_read [] (g ∷ gs) rest h k e stops = absurd (stops g (flat_map shown gs) k.0 e)
  all_read (f ∷ fs) [] rest h k e stops = absurd (some_text f (flat_map shown fs ++ rest) h.0 (sym e ∙ append_assoc (shown f) (flat_map shown fs) rest))
  all_read (f ∷ fs) (g ∷ gs) rest h k e stops =
      let (first, others) = same_front f g (flat_map shown fs ++ rest) (flat_map shown gs) h.0 k.0 (sym (append_assoc (shown f) (flat_map shown fs) rest) ∙ e) in
      let (same, none) = all_read fs gs rest h.1 k.1 others stops in
      (rw (first, same) refl, none)

  -- two texts of facts in range are of the same facts
  pub one_text : (fs gs : List F) → AllByRecursion fits fs → AllByRecursion fits gs → flat_map shown fs ≡ flat_map shown gs → fs ≡ gs
  one_text fs gs h k e = (all_read fs gs [] h k (append-nil (flat_map shown fs) ∙ e) (λ f s r. some_text f s r)).0

  -- the lines of facts, and those of what follows
  fact_lines : (fs : List F) (rest : List ℕ) → AllByRecursion fits fs → lines (flat_map shown fs ++ rest) ≡ map shown fs ++ lines rest
  fact_lines [] rest h = refl
  fact_lines (f ∷ fs) rest h =
      ap lines (append_assoc (shown f) (flat_map shown fs) rest) ∙ one_line f (flat_map shown fs ++ rest) h.0 ∙ ap (λ ls. shown f ∷ ls) (fact_lines fs rest h.1)

  are_lines : (fs : List F) → AllByRecursion fits fs → AllByRecursion (IsFactLine shown fits) (map shown fs)
  are_lines [] h = tt
  are_lines (f ∷ fs) h = ((f, h.0, refl), are_lines fs h.1)

  -- where the facts end, the first wrong line stands
  pub wrong_line : (fs : List F) (rest text : List ℕ) → AllByRecursion fits fs → text ≡ flat_map shown fs ++ rest → Stops rest → rest ≢ [] → IsFirstOther shown fits text (suc (length fs))
  wrong_line fs [] text h e stops some = absurd (some refl)
  wrong_line fs (b ∷ bs) text h e stops some =
      let (line, after, s, is, whole) = first_line b bs in
      record {
        before = map shown fs;
        line = line;
        after = after;
        whole = ap lines e ∙ fact_lines fs (b ∷ bs) h ∙ ap (λ ls. map shown fs ++ ls) is;
        right = are_lines fs h;
        wrong = λ l. stops l.0 s l.1 (rw (← l.2) whole);
        counted = ap suc (sym (length-map fs shown));
      }

  -- there is one first wrong line
  unique : (xs ys : List (List ℕ)) (x y : List ℕ) (us vs : List (List ℕ)) → xs ++ x ∷ us ≡ ys ++ y ∷ vs → AllByRecursion (IsFactLine shown fits) xs
      → AllByRecursion (IsFactLine shown fits) ys → (IsFactLine shown fits x → ⊥) → (IsFactLine shown fits y → ⊥) → length xs ≡ length ys
  unique [] [] x y us vs e h k f g = refl
  unique [] (z ∷ ys) x y us vs e h k f g = absurd (f (rw (sym (first_same x z us (ys ++ y ∷ vs) e)) at k.0))
  unique (z ∷ xs) [] x y us vs e h k f g = absurd (g (rw (first_same z y (xs ++ x ∷ us) vs e) at h.0))
  unique (z ∷ xs) (w ∷ ys) x y us vs e h k f g = ap suc (unique xs ys x y us vs (rest_same z w (xs ++ x ∷ us) (ys ++ y ∷ vs) e) h.1 k.1 f g)

  pub one_wrong : (text : List ℕ) (n m : ℕ) → IsFirstOther shown fits text n → IsFirstOther shown fits text m → n ≡ m
  one_wrong text n m a b = a.counted ∙ ap suc (unique a.before b.before a.line b.line a.after b.after (sym a.whole ∙ b.whole) a.right b.right a.wrong b.wrong) ∙ sym b.counted

  -- all lines of facts in range are right
  none_wrong : (xs : List (List ℕ)) (x : List ℕ) (us : List (List ℕ)) → AllByRecursion (IsFactLine shown fits) (xs ++ x ∷ us) → IsFactLine shown fits x
  none_wrong [] x us h = h.0
  none_wrong (y ∷ xs) x us h = none_wrong xs x us h.1

  pub no_wrong : (fs : List F) (text : List ℕ) (n : ℕ) → AllByRecursion fits fs → text ≡ flat_map shown fs → IsFirstOther shown fits text n → ⊥
  no_wrong fs text n h e w =
      let whole : lines text ≡ map shown fs = ap lines (e ∙ sym (append-nil (flat_map shown fs))) ∙ fact_lines fs [] h ∙ append-nil (map shown fs) in
      w.wrong (none_wrong w.before w.line w.after (rw (sym whole ∙ w.whole) at (are_lines fs h)))
