-- What a whole text reads as.
use Rattle.std.proofs.Common.{◌≡◌, ◌≢◌, ℕ, suc, ◌==◌, Bool, true, false, List, [], ◌∷◌, ◌++◌, length, map, refl, ap, sym, ◌∙◌, arith, append_assoc, append-nil, eqb-true}
use Rattle.std.proofs.lemmas.List.{length-map}
use Rattle.std.proofs.lemmas.Bool.{false≢true}
use Rattle.std.proofs.lemmas.Option.{same_Some}
use Rattle.std.specs.List.{AllByRecursion}
use Rattle.certificate.specs.declared.fact.Fact.{Fact}
use Rattle.certificate.specs.declared.fact.Fact.TheVariants as fact
use Rattle.certificate.specs.Text.{fact_text, text_of}
use Rattle.certificate.specs.Range.{InRange, AreInRange}
use Rattle.certificate.specs.Lines.{lines, IsFactLine, IsFirstWrong}
use Rattle.certificate.specs.Parse.{read_fact}
use Rattle.certificate.proofs.FactBackLemmas.{fact_back}
use Rattle.certificate.proofs.OneLine.{one_line}

-- where the line at the front is not a fact
abbrev pub Stops : List ℕ → Type 0
Stops rest = (f : Fact) (s : List ℕ) → InRange f → rest ≢ fact_text f ++ s

-- two facts at the front of one text are one
same_front : (f g : Fact) (s t : List ℕ) → InRange f → InRange g → fact_text f ++ s ≡ fact_text g ++ t → (f ≡ g) × (s ≡ t)
same_front f g s t h k e =
    let same = same_Some _ _ (sym (fact_back f s h) ∙ ap read_fact e ∙ fact_back g t k) in
    (ap (λ p. p.0) same, ap (λ p. p.1) same)

some_text : (f : Fact) (s : List ℕ) → [] ≢ fact_text f ++ s
some_text (fact.Cti version) s e = cc
some_text (fact.Norm named) s e = cc
some_text (fact.Terminates pred modes) s e = cc
some_text (fact.Size pred index row) s e = cc
some_text (fact.By clause index scale multipliers) s e = cc
some_text (fact.Grounds pred index cube) s e = cc
some_text (fact.Measure pred mapping coeffs offset) s e = cc
some_text (fact.Falls clause call mapping scale multipliers) s e = cc
some_text (fact.Pre pred mapping index cube) s e = cc
some_text (fact.Refuted pred points) s e = cc
some_text (fact.Point clause call t w) s e = cc
some_text (fact.At clause call t w) s e = cc
some_text (fact.Image step clause pred rows) s e = cc
some_text (fact.Step step pred how rows) s e = cc
some_text (fact.WeakImage step) s e = cc
some_text (fact.WeakStep step) s e = cc
some_text (fact.Blown pred support) s e = cc
some_text (fact.Large pred positions) s e = cc

-- facts that are read up to where it stops are those of the text
pub all_read : (fs gs : List Fact) (rest : List ℕ) → AreInRange fs → AreInRange gs → text_of fs ++ rest ≡ text_of gs → Stops rest → (fs ≡ gs) × (rest ≡ [])
all_read [] [] rest h k e stops = (refl, e)
all_read [] (g ∷ gs) rest h k e stops = absurd (stops g (text_of gs) k.0 e)
all_read (f ∷ fs) [] rest h k e stops = absurd (some_text f (text_of fs ++ rest) (sym e ∙ append_assoc (fact_text f) (text_of fs) rest))
all_read (f ∷ fs) (g ∷ gs) rest h k e stops =
    let (first, others) = same_front f g (text_of fs ++ rest) (text_of gs) h.0 k.0 (sym (append_assoc (fact_text f) (text_of fs) rest) ∙ e) in
    let (same, none) = all_read fs gs rest h.1 k.1 others stops in
    (rw (first, same) refl, none)

-- two texts of facts in range are of the same facts
pub one_text : (fs gs : List Fact) → AreInRange fs → AreInRange gs → text_of fs ≡ text_of gs → fs ≡ gs
one_text fs gs h k e = (all_read fs gs [] h k (append-nil (text_of fs) ∙ e) (λ f s r. some_text f s)).0

-- the lines of facts, and those of what follows
fact_lines : (fs : List Fact) (rest : List ℕ) → AreInRange fs → lines (text_of fs ++ rest) ≡ map fact_text fs ++ lines rest
fact_lines [] rest h = refl
fact_lines (f ∷ fs) rest h =
    ap lines (append_assoc (fact_text f) (text_of fs) rest) ∙ one_line f (text_of fs ++ rest) h.0 ∙ ap (λ ls. fact_text f ∷ ls) (fact_lines fs rest h.1)

are_lines : (fs : List Fact) → AreInRange fs → AllByRecursion IsFactLine (map fact_text fs)
are_lines [] h = tt
are_lines (f ∷ fs) h = ((f, h.0, refl), are_lines fs h.1)

-- the first line of a text is at its front
abbrev pub First : List ℕ → Type 0
First rest = (line : List ℕ) × (after : List (List ℕ)) × (s : List ℕ) × (lines rest ≡ line ∷ after) × (rest ≡ line ++ s)

first_line : (b : ℕ) (bs : List ℕ) → First (b ∷ bs)
first_line b [] = go (b == 10) refl
  where
    go : (c : Bool) → (b == 10) ≡ c → First (b ∷ [])
    go true e = (b ∷ [], [], [], rw e refl, refl)
    go false e = (b ∷ [], [], [], rw e refl, refl)
first_line b (c ∷ bs) = go (first_line c bs) (b == 10) refl
  where
    go : First (c ∷ bs) → (d : Bool) → (b == 10) ≡ d → First (b ∷ c ∷ bs)
    go (line, after, s, is, whole) true e = (b ∷ [], lines (c ∷ bs), c ∷ bs, rw e refl, refl)
    go (line, after, s, is, whole) false e = (b ∷ line, after, s, rw (e, is) refl, ap (λ t. b ∷ t) whole)

-- where the facts end, the first wrong line stands
pub wrong_line : (fs : List Fact) (rest text : List ℕ) → AreInRange fs → text ≡ text_of fs ++ rest → Stops rest → rest ≢ [] → IsFirstWrong text (suc (length fs))
wrong_line fs [] text h e stops some = absurd (some refl)
wrong_line fs (b ∷ bs) text h e stops some =
    let (line, after, s, is, whole) = first_line b bs in
    record {
      before = map fact_text fs;
      line = line;
      after = after;
      whole = ap lines e ∙ fact_lines fs (b ∷ bs) h ∙ ap (λ ls. map fact_text fs ++ ls) is;
      right = are_lines fs h;
      wrong = λ l. stops l.0 s l.1 (rw (← l.2) whole);
      counted = ap suc (sym (length-map fs fact_text));
    }

first_same : (x z : List ℕ) (us vs : List (List ℕ)) → x ∷ us ≡ z ∷ vs → x ≡ z
first_same x z us vs e = cc

rest_same : (x z : List ℕ) (us vs : List (List ℕ)) → x ∷ us ≡ z ∷ vs → us ≡ vs
rest_same x z us vs e = cc

-- there is one first wrong line
unique : (xs ys : List (List ℕ)) (x y : List ℕ) (us vs : List (List ℕ)) → xs ++ x ∷ us ≡ ys ++ y ∷ vs → AllByRecursion IsFactLine xs → AllByRecursion IsFactLine ys
    → (IsFactLine x → ⊥) → (IsFactLine y → ⊥) → length xs ≡ length ys
unique [] [] x y us vs e h k f g = refl
unique [] (z ∷ ys) x y us vs e h k f g = absurd (f (rw (sym (first_same x z us (ys ++ y ∷ vs) e)) at k.0))
unique (z ∷ xs) [] x y us vs e h k f g = absurd (g (rw (first_same z y (xs ++ x ∷ us) vs e) at h.0))
unique (z ∷ xs) (w ∷ ys) x y us vs e h k f g = ap suc (unique xs ys x y us vs (rest_same z w (xs ++ x ∷ us) (ys ++ y ∷ vs) e) h.1 k.1 f g)

pub one_wrong : (text : List ℕ) (n m : ℕ) → IsFirstWrong text n → IsFirstWrong text m → n ≡ m
one_wrong text n m a b = a.counted ∙ ap suc (unique a.before b.before a.line b.line a.after b.after (sym a.whole ∙ b.whole) a.right b.right a.wrong b.wrong) ∙ sym b.counted

-- all lines of facts in range are right
none_wrong : (xs : List (List ℕ)) (x : List ℕ) (us : List (List ℕ)) → AllByRecursion IsFactLine (xs ++ x ∷ us) → IsFactLine x
none_wrong [] x us h = h.0
none_wrong (y ∷ xs) x us h = none_wrong xs x us h.1

pub no_wrong : (fs : List Fact) (text : List ℕ) (n : ℕ) → AreInRange fs → text ≡ text_of fs → IsFirstWrong text n → ⊥
no_wrong fs text n h e w =
    let whole : lines text ≡ map fact_text fs = ap lines (e ∙ sym (append-nil (text_of fs))) ∙ fact_lines fs [] h ∙ append-nil (map fact_text fs) in
    w.wrong (none_wrong w.before w.line w.after (rw (sym whole ∙ w.whole) at (are_lines fs h)))

-- what is left is empty or not
pub left_empty : (rest : List ℕ) → true ≡ (length rest == 0) → rest ≡ []
left_empty [] e = refl
left_empty (b ∷ bs) e = let none : suc (length bs) ≡ 0 = eqb-true (suc (length bs)) 0 (sym e) in absurd (omega (arith, none))

pub left_some : (rest : List ℕ) → false ≡ (length rest == 0) → rest ≢ []
left_some [] e same = false≢true e
left_some (b ∷ bs) e same = cc
