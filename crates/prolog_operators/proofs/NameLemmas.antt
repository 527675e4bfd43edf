-- Lemmas on lists of texts: the place of a text, and that later texts change nothing.
use Rattle.std.proofs.Common.{◌≡◌, ℕ, ◌+◌, ◌<◌, ◌≤◌, Bool, true, false, not, cond, nat_eq, ltb, ◌||◌, List, [], ◌∷◌, ◌++◌, length, map, get_or, slice_get, Some, None, position, refl, ap, sym, ◌∙◌, append-nil, append_assoc, length-append, eq-eqb, inl, inr, ◌⊎◌, arith}
use Rattle.std.specs.List.{list_any, position_or_len}
use Rattle.std.specs.Cmp.Lexicographic.{pointwise, same_text}
use Rattle.std.proofs.lemmas.Bool.{ltb-true, ltb-false}
use Rattle.std.proofs.lemmas.List.Sums.{passes_at_first}
use Rattle.std.proofs.lemmas.List.Folds.{position_or_len_push}
use Rattle.std.proofs.lemmas.Option.{slice_get_within}
use Rattle.std.proofs.Math.ListN.{get_or-append}
use Rattle.std.proofs.Math.Seq.{get_or-append_seam}
use Rattle.cti_terms.specs.Numbers.{number_of, with_text}
use Rattle.prolog_operators.specs.Names.{Extends, name_text, IsNumber}

module _ {X : Type 0} (p : X → Bool) where
  -- a list has an element that passes, and the first place is within it, or it has none
  abbrev pub Placed : List X → Type 0
  Placed xs = ((list_any p xs ≡ true) × (position_or_len p xs < length xs)) ⊎ ((list_any p xs ≡ false) × (position_or_len p xs ≡ length xs))

  pub placed : (xs : List X) → Placed xs
  placed [] = inr (refl, refl)
  placed (x ∷ xs) = by_test (p x) refl (placed xs)
    where
      by_test : (b : Bool) → p x ≡ b → Placed xs → Placed (x ∷ xs)
      by_test true e rest = inl (rw e refl, rw e (omega arith))
      by_test false e (inl rest) = inl (rw e rest.0, rw e (omega (arith, rest.1)))
      by_test false e (inr rest) = inr (rw e rest.0, rw e (omega (arith, rest.1)))

  -- a place that is found is the first
  pub found_place : (xs : List X) (i : ℕ) → Some i ≡ position p xs → (i ≡ position_or_len p xs) × (list_any p xs ≡ true)
  found_place xs i h = by_test (ltb (position_or_len p xs) (length xs)) refl h (placed xs)
    where
      by_test : (b : Bool) → ltb (position_or_len p xs) (length xs) ≡ b → Some i ≡ cond b (Some (position_or_len p xs)) None → Placed xs → (i ≡ position_or_len p xs) × (list_any p xs ≡ true)
      by_test true e h (inl there) = (cc, there.0)
      by_test true e h (inr away) = absurd (omega (arith, away.1, ltb-true _ _ e))
      by_test false e h _ = cc

  -- where no place is found, there is none
  pub no_place : (xs : List X) → None ≡ position p xs → (length xs ≡ position_or_len p xs) × (list_any p xs ≡ false)
  no_place xs h = by_test (ltb (position_or_len p xs) (length xs)) refl h (placed xs)
    where
      by_test : (b : Bool) → ltb (position_or_len p xs) (length xs) ≡ b → None ≡ cond b (Some (position_or_len p xs)) None → Placed xs → (length xs ≡ position_or_len p xs) × (list_any p xs ≡ false)
      by_test true e h _ = cc
      by_test false e h (inl there) = absurd (omega (arith, there.1, ltb-false _ _ e))
      by_test false e h (inr away) = (sym away.1, away.0)

-- a place found by a test of what f gives
pub position-map : {X Y : Type 0} (f : X → Y) (p : Y → Bool) (xs : List X) → (position_or_len p (map f xs) ≡ position_or_len (λ x. p (f x)) xs) × (list_any p (map f xs) ≡ list_any (λ x. p (f x)) xs)
position-map f p [] = (refl, refl)
position-map f p (x ∷ xs) =
    let rest = position-map f p xs in
    (ap (λ n. cond (not (p (f x))) (1 + n) 0) rest.0, ap (λ b. p (f x) || b) rest.1)

-- a text that is there has its number, and changes nothing
pub text_there : (texts : List (List ℕ)) (text : List ℕ) → list_any (pointwise nat_eq text) texts ≡ true → with_text texts text ≡ texts
text_there texts text h = rw h refl

pub text_away : (texts : List (List ℕ)) (text : List ℕ) → list_any (pointwise nat_eq text) texts ≡ false → with_text texts text ≡ texts ++ text ∷ []
text_away texts text h = rw h refl

-- a text that is put to the names has its number, whatever names come later
pub name_text_added : (texts : List (List ℕ)) (text : List ℕ) (later : List (List ℕ)) → Extends (with_text texts text) later → name_text later (number_of texts text) ≡ text
name_text_added texts text later ext = by_place (placed (pointwise nat_eq text) texts)
  where
    by_place : Placed (pointwise nat_eq text) texts → name_text later (number_of texts text) ≡ text
    by_place (inl there) =
        let whole : later ≡ texts ++ ext.0 = ext.1 ∙ ap (λ (us : List (List ℕ)). us ++ ext.0) (text_there texts text there.0) in
        rw whole (
        get_or-append texts ext.0 [] (number_of texts text) there.1
        ∙ sym (same_text text (get_or texts (number_of texts text) []) (sym (passes_at_first (pointwise nat_eq text) texts [] there.1)))
        )
    by_place (inr away) =
        let whole : later ≡ (texts ++ text ∷ []) ++ ext.0 = ext.1 ∙ ap (λ (us : List (List ℕ)). us ++ ext.0) (text_away texts text away.0) in
        rw (whole, append_assoc texts (text ∷ []) ext.0, away.1) (get_or-append_seam texts text ext.0 [])

-- and the earlier names are kept
pub extends_with_text : (texts : List (List ℕ)) (text : List ℕ) → Extends texts (with_text texts text)
extends_with_text texts text = by_place (placed (pointwise nat_eq text) texts)
  where
    by_place : Placed (pointwise nat_eq text) texts → Extends texts (with_text texts text)
    by_place (inl there) = ([], text_there texts text there.0 ∙ sym (append-nil texts))
    by_place (inr away) = (text ∷ [], text_away texts text away.0)

-- at most one text more
pub length-with_text : (texts : List (List ℕ)) (text : List ℕ) → length (with_text texts text) ≤ length texts + 1
length-with_text texts text = by_place (placed (pointwise nat_eq text) texts)
  where
    by_place : Placed (pointwise nat_eq text) texts → length (with_text texts text) ≤ length texts + 1
    by_place (inl there) = omega (arith, ap length (text_there texts text there.0))
    by_place (inr away) = omega (arith, ap length (text_away texts text away.0), length-append texts (text ∷ []))

pub extends_trans : (xs ys zs : List (List ℕ)) → Extends xs ys → Extends ys zs → Extends xs zs
extends_trans xs ys zs h g = (h.0 ++ g.0, g.1 ∙ ap (λ (us : List (List ℕ)). us ++ g.0) h.1 ∙ append_assoc xs h.0 g.0)

pub extends_self : (xs : List (List ℕ)) → Extends xs xs
extends_self xs = ([], sym (append-nil xs))

-- a place that is found stays where more follows
pub first_in : {X : Type 0} (p : X → Bool) (xs ys : List X) → position_or_len p xs < length xs → position_or_len p (xs ++ ys) ≡ position_or_len p xs
first_in p [] ys h = absurd (omega (arith, h))
first_in p (x ∷ xs) ys h = by_test (p x) refl (λ k. first_in p xs ys k)
  where
    by_test : (b : Bool) → p x ≡ b → (position_or_len p xs < length xs → position_or_len p (xs ++ ys) ≡ position_or_len p xs) → position_or_len p (x ∷ (xs ++ ys)) ≡ position_or_len p (x ∷ xs)
    by_test true e more = rw e refl
    by_test false e more = rw e (ap (λ n. 1 + n) (more (let k = rw e at h in omega (arith, k))))

-- and one that passes after others that do not
pub first_behind : {X : Type 0} (p : X → Bool) (xs : List X) (x : X) → position_or_len p xs ≡ length xs → p x ≡ true → position_or_len p (xs ++ x ∷ []) ≡ length xs
first_behind p [] x h is = rw is refl
first_behind p (y ∷ ys) x h is = by_test (p y) refl (λ k. first_behind p ys x k is)
  where
    by_test : (b : Bool) → p y ≡ b → (position_or_len p ys ≡ length ys → position_or_len p (ys ++ x ∷ []) ≡ length ys) → position_or_len p (y ∷ (ys ++ x ∷ [])) ≡ length (y ∷ ys)
    by_test true e more = let k = rw e at h in absurd (omega (arith, k))
    by_test false e more = rw e (let k = rw e at h in omega (arith, more (omega (arith, k))))

-- a text is the same as itself
pub itself : (text : List ℕ) → pointwise nat_eq text text ≡ true
itself [] = refl
itself (b ∷ bs) = rw (eq-eqb b b refl, itself bs) refl

-- a text that is put to the names has its number in every later list
pub number_kept : (texts : List (List ℕ)) (text : List ℕ) → IsNumber (with_text texts text) text (number_of texts text)
number_kept texts text later ext = by_place (placed (pointwise nat_eq text) texts)
  where
    by_place : Placed (pointwise nat_eq text) texts → number_of later text ≡ number_of texts text
    by_place (inl there) =
        let whole : later ≡ texts ++ ext.0 = ext.1 ∙ ap (λ (us : List (List ℕ)). us ++ ext.0) (text_there texts text there.0) in
        rw whole (first_in (pointwise nat_eq text) texts ext.0 there.1)
    by_place (inr away) =
        let whole : later ≡ (texts ++ text ∷ []) ++ ext.0 = ext.1 ∙ ap (λ (us : List (List ℕ)). us ++ ext.0) (text_away texts text away.0) in
        let behind = first_behind (pointwise nat_eq text) texts text away.1 (itself text) in
        rw whole (first_in (pointwise nat_eq text) (texts ++ text ∷ []) ext.0 (omega (arith, behind, length-append texts (text ∷ []))) ∙ behind ∙ sym away.1)

-- what is found by its number is within the list
pub got_within : (xs : List (List ℕ)) (n : ℕ) (x : List ℕ) → slice_get xs n ≡ Some x → n < length xs
got_within xs n x h = slice_get_within xs n x h

-- a text is not the same with one byte in front
longer : (b : ℕ) (text : List ℕ) → pointwise nat_eq text (b ∷ text) ≡ false
longer b text = by_test (pointwise nat_eq text (b ∷ text)) refl
  where
    by_test : (t : Bool) → pointwise nat_eq text (b ∷ text) ≡ t → pointwise nat_eq text (b ∷ text) ≡ false
    by_test true e = absurd (let k = ap (λ (xs : List ℕ). length xs) (same_text text (b ∷ text) (sym e)) in omega (arith, k))
    by_test false e = e

-- a text that has its number in every later list is there
pub number_within : (names : List (List ℕ)) (text : List ℕ) (n : ℕ) → IsNumber names text n → n < length names
number_within names text n number = by_place (placed (pointwise nat_eq text) names)
  where
    here : number_of names text ≡ n
    here = number names ([], sym (append-nil names))

    there : number_of (names ++ (0 ∷ text) ∷ []) text ≡ n
    there = number (names ++ (0 ∷ text) ∷ []) ((0 ∷ text) ∷ [], refl)

    by_place : Placed (pointwise nat_eq text) names → n < length names
    by_place (inl k) = omega (arith, k.1, here)
    by_place (inr k) =
        let pushed = position_or_len_push (pointwise nat_eq text) names (0 ∷ text) in
        let same : position_or_len (pointwise nat_eq text) (names ++ (0 ∷ text) ∷ []) ≡ length names + 1 =
        pushed ∙ rw (eq-eqb (position_or_len (pointwise nat_eq text) names) (length names) k.1, longer 0 text) refl in
        absurd (omega (arith, same, here, there, k.1))

pub extends_length : (xs ys : List (List ℕ)) → Extends xs ys → length xs ≤ length ys
extends_length xs ys h = omega (arith, ap (λ (zs : List (List ℕ)). length zs) h.1, length-append xs h.0)
