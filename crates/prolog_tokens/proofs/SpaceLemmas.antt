-- Layout and comments, by their forms.
use Rattle.std.proofs.Common.{◌≡◌, ℕ, zero, suc, ◌+◌, ◌<◌, ◌≤◌, ◌==◌, ◌&&◌, ◌||◌, nat_lt, Bool, true, false, List, [], ◌∷◌, ◌++◌, length, take, drop, Result, Ok, Err, ◌⊎◌, inl, inr, ⊎_elim, refl, sym, ◌∙◌, ap, subst, append_assoc, length-append, arith, if◌then◌else◌}
use Rattle.std.proofs.Math.Numerals.{one-add}
use Rattle.std.specs.Prelude.{not}
use Rattle.std.specs.Str.{IsUtf8, is_utf8}
use Rattle.std.specs.Str.Lossy.{utf8_valid_len, valid_len_up_to}
use Rattle.std.proofs.lemmas.Bool.{eqb-true, eqb-false, ne_eqb, eq-eqb, ltb-true, ltb-false, lt-ltb, le-ltb}
use Rattle.std.proofs.lemmas.List.{take-append-drop, length-take-le, take_all, take_at, nil_from_length}
use Rattle.std.proofs.lemmas.List.Sums.{prefix_len-le-length}
use Rattle.std.proofs.lemmas.Str.{utf8_valid_len-IsUtf8, IsUtf8-from_is_utf8, IsUtf8-nil}
use Rattle.prolog_tokens.specs.Bytes.{is_layout, begins_with, begins_comment}
use Rattle.prolog_tokens.specs.Places.{fault_at}
use Rattle.prolog_tokens.specs.Layout.{with_body, line_len, body_len, line_comment, block_comment, space_at}
use Rattle.prolog_tokens.specs.Forms.{IsLineEnd}
use Rattle.prolog_tokens.specs.Gaps.{IsLine, HasNoEnd, EndsFirst, IsSpace, layout, line, block, begins_space, IsCommentFault, broken_line, broken_block, broken_open, unclosed}
use Rattle.prolog_tokens.specs.declared.fault.LexKind.TheVariants.{BadByte, Unclosed}
use Rattle.prolog_tokens.specs.declared.fault.LexFault.{LexFault}
use Rattle.prolog_tokens.proofs.CharacterLemmas.{either, and_true}
use Rattle.prolog_tokens.proofs.PieceLemmas.{begins_is}
use Rattle.prolog_tokens.proofs.RunLemmas.{Each-prefix, begins, begins-prefix, prefix_len-Each}

-- a front that is as long as the bytes is all of them
le-valid_len_up_to : (bs : List ℕ) (n : ℕ) → valid_len_up_to bs n ≤ n
le-valid_len_up_to bs zero = omega arith
le-valid_len_up_to bs (suc n) = by_test (is_utf8 (take (suc n) bs)) (le-valid_len_up_to bs n)
  where
    by_test : (t : Bool) → valid_len_up_to bs n ≤ n → (if t then suc n else valid_len_up_to bs n) ≤ suc n
    by_test true h = omega arith
    by_test false h = omega (arith, h)

valid_up_to : (bs : List ℕ) (n : ℕ) → length bs ≡ n → valid_len_up_to bs n ≡ n → IsUtf8 bs
valid_up_to bs zero len is = let P : List ℕ → Type 0 = λ xs. IsUtf8 xs in subst P (sym (nil_from_length bs len)) IsUtf8-nil
valid_up_to bs (suc n) len is = ⊎_elim whole (λ f. absurd (part f)) (either (is_utf8 (take (suc n) bs)))
  where
    whole : is_utf8 (take (suc n) bs) ≡ true → IsUtf8 bs
    whole t = let P : List ℕ → Type 0 = λ xs. IsUtf8 xs in subst P (take_all (suc n) bs (omega (arith, len))) (IsUtf8-from_is_utf8 (take (suc n) bs) t)

    part : is_utf8 (take (suc n) bs) ≡ false → ⊥
    part f = let h = rw f at is in omega (arith, h, le-valid_len_up_to bs n)

pub IsUtf8-from_valid_len : (bs : List ℕ) → utf8_valid_len bs ≡ length bs → IsUtf8 bs
unfolding utf8_valid_len
IsUtf8-from_valid_len bs is = valid_up_to bs (length bs) refl is

-- a body with its answer
with_valid : (before : ℕ) (body : List ℕ) (answer : Result ℕ LexFault) → IsUtf8 body → with_body before body answer ≡ answer
with_valid before body answer is = rw (eq-eqb (utf8_valid_len body) (length body) (utf8_valid_len-IsUtf8 body is)) refl

with_broken : (before : ℕ) (body : List ℕ) (answer : Result ℕ LexFault) → (IsUtf8 body → ⊥) → with_body before body answer ≡ Err (fault_at BadByte (before + utf8_valid_len body))
with_broken before body answer broken = rw (ne_eqb (utf8_valid_len body) (length body) (λ e. broken (IsUtf8-from_valid_len body e))) refl

is_valid : (body : List ℕ) → IsUtf8 body ⊎ (IsUtf8 body → ⊥)
is_valid body = ⊎_elim (λ t. inl (IsUtf8-from_valid_len body (eqb-true (utf8_valid_len body) (length body) t))) (λ f. inr (λ u. eqb-false (utf8_valid_len body) (length body) f (utf8_valid_len-IsUtf8 body u))) (either (utf8_valid_len body == length body))

-- the first line of the bytes
line_end_from : (bs : List ℕ) → begins (λ b. not (b == 10)) bs ≡ false → IsLineEnd bs
line_end_from [] h = tt
line_end_from (b ∷ bs) h = ⊎_elim (λ t. eqb-true b 10 t) (λ f. absurd (none f)) (either (b == 10))
  where
    none : (b == 10) ≡ false → ⊥
    none f = let h' = rw f at h in cc

line_end_to : (bs : List ℕ) → IsLineEnd bs → begins (λ b. not (b == 10)) bs ≡ false
line_end_to [] h = refl
line_end_to (b ∷ bs) h = rw (eq-eqb b 10 h) refl

first_line : (bs : List ℕ) → IsLine (take (line_len bs) bs) (drop (line_len bs) bs)
first_line bs = record { no_newline = Each-prefix (λ b. not (b == 10)) bs; ended = line_end_from (drop (line_len bs) bs) (begins-prefix (λ b. not (b == 10)) bs) }

line_len-IsLine : (body after : List ℕ) → IsLine body after → line_len (body ++ after) ≡ length body
line_len-IsLine body after h = prefix_len-Each (λ b. not (b == 10)) body after h.no_newline (line_end_to after h.ended)

-- the first `*/` stands after no more bytes than any
body_len-le-before : (before after : List ℕ) → body_len (before ++ 42 ∷ 47 ∷ after) ≤ length before
body_len-le-before [] after = omega arith
body_len-le-before (b ∷ bs) after = by_test ((b == 42) && begins_with 47 (bs ++ 42 ∷ 47 ∷ after)) (body_len-le-before bs after)
  where
    by_test : (t : Bool) → body_len (bs ++ 42 ∷ 47 ∷ after) ≤ length bs → (if t then 0 else 1 + body_len (bs ++ 42 ∷ 47 ∷ after)) ≤ length (b ∷ bs)
    by_test true h = omega arith
    by_test false h = omega (arith, h)

body_len-le-length : (bs : List ℕ) → body_len bs ≤ length bs
body_len-le-length [] = omega arith
body_len-le-length (b ∷ bs) = by_test ((b == 42) && begins_with 47 bs) (body_len-le-length bs)
  where
    by_test : (t : Bool) → body_len bs ≤ length bs → (if t then 0 else 1 + body_len bs) ≤ length (b ∷ bs)
    by_test true h = omega arith
    by_test false h = omega (arith, h)

-- where it is
closed_at : (bs : List ℕ) → body_len bs < length bs → (after : List ℕ) × (bs ≡ take (body_len bs) bs ++ 42 ∷ 47 ∷ after)
closed_at [] h = absurd (omega (arith, h))
closed_at (b ∷ bs) h = by_test ((b == 42) && begins_with 47 bs) refl h (closed_at bs)
  where
    by_test : (t : Bool) → ((b == 42) && begins_with 47 bs) ≡ t → (if (b == 42) && begins_with 47 bs then 0 else 1 + body_len bs) < length (b ∷ bs)
        → (body_len bs < length bs → (after : List ℕ) × (bs ≡ take (body_len bs) bs ++ 42 ∷ 47 ∷ after))
        → (after : List ℕ) × (b ∷ bs ≡ take (if (b == 42) && begins_with 47 bs then 0 else 1 + body_len bs) (b ∷ bs) ++ 42 ∷ 47 ∷ after)
    by_test true e k rest =
        let parts = and_true (b == 42) (begins_with 47 bs) e in
        let next = begins_is 47 bs parts.1 in
        rw e (next.0, ap (λ x. x ∷ bs) (eqb-true b 42 parts.0) ∙ ap (λ (xs : List ℕ). 42 ∷ xs) next.1)
    by_test false e k rest =
        let k' = rw e at k in
        let r = rest (omega (arith, k')) in
        rw (e, one-add) (r.0, ap (λ (xs : List ℕ). b ∷ xs) r.1)

-- two ways to cut the same bytes
cut_longer : (xs ys us vs : List ℕ) → xs ++ ys ≡ us ++ vs → length us ≤ length xs → (ws : List ℕ) × (xs ≡ us ++ ws)
cut_longer xs ys [] vs e h = (xs, refl)
cut_longer [] ys (u ∷ us) vs e h = absurd (omega (arith, h))
cut_longer (x ∷ xs) ys (u ∷ us) vs e h =
    let head : x ≡ u = cc in
    let tail : xs ++ ys ≡ us ++ vs = cc in
    let r = cut_longer xs ys us vs tail (omega (arith, h)) in
    (r.0, ap (λ y. y ∷ xs) head ∙ ap (λ (zs : List ℕ). u ∷ zs) r.1)

end_two : (xs ys : List ℕ) → xs ++ 42 ∷ 47 ∷ ys ≡ (xs ++ 42 ∷ 47 ∷ []) ++ ys
end_two xs ys = sym (append_assoc xs (42 ∷ 47 ∷ []) ys)

pub record Closed (bs : List ℕ) : Type 0 where
  pub after : List ℕ
  pub whole : bs ≡ take (body_len bs) bs ++ 42 ∷ 47 ∷ after
  pub first : EndsFirst (take (body_len bs) bs)

pub body_closed : (bs : List ℕ) → body_len bs < length bs → Closed bs
body_closed bs h = record {
  after = at.0;
  whole = at.1;
  first = λ before after is. first before after is;
}
  where
    at : (after : List ℕ) × (bs ≡ take (body_len bs) bs ++ 42 ∷ 47 ∷ after)
    at = closed_at bs h

    first : (before after : List ℕ) → take (body_len bs) bs ++ 42 ∷ 47 ∷ [] ≡ before ++ 42 ∷ 47 ∷ after → length (take (body_len bs) bs) ≤ length before
    first before after is =
        let all : bs ≡ before ++ 42 ∷ 47 ∷ (after ++ at.0) = at.1 ∙ end_two _ at.0 ∙ ap (λ (xs : List ℕ). xs ++ at.0) is ∙ append_assoc before (42 ∷ 47 ∷ after) at.0 in
        omega (arith, ap body_len all, body_len-le-before before (after ++ at.0), length-take-le (body_len bs) bs (body_len-le-length bs))

pub body_open : (bs : List ℕ) → length bs ≤ body_len bs → HasNoEnd bs
body_open bs h before after is = omega (arith, h, ap body_len is, body_len-le-before before after, ap length is, length-append before (42 ∷ 47 ∷ after))

-- an end in front of the first is the first
first_end : (body after front rest : List ℕ) → EndsFirst body → body ++ 42 ∷ 47 ∷ after ≡ front ++ 42 ∷ 47 ∷ rest → length front ≤ length body → length body ≤ length front
first_end body after front rest h same short =
    let cut = cut_longer (body ++ 42 ∷ 47 ∷ []) after (front ++ 42 ∷ 47 ∷ []) rest (sym (end_two body after) ∙ same ∙ end_two front rest)
    (omega (arith, short, length-append body (42 ∷ 47 ∷ []), length-append front (42 ∷ 47 ∷ []))) in
    h front cut.0 (cut.1 ∙ append_assoc front (42 ∷ 47 ∷ []) cut.0)

pub body_len-end : (body after : List ℕ) → EndsFirst body → body_len (body ++ 42 ∷ 47 ∷ after) ≡ length body
body_len-end body after h = by_front (body_len (body ++ 42 ∷ 47 ∷ after)) (body_len-le-before body after) (length-take-le _ (body ++ 42 ∷ 47 ∷ after) (body_len-le-length (body ++ 42 ∷ 47 ∷ after)))
    (closed_at (body ++ 42 ∷ 47 ∷ after) (omega (arith, body_len-le-before body after, length-append body (42 ∷ 47 ∷ after))))
  where
    by_front : (n : ℕ) → n ≤ length body → length (take n (body ++ 42 ∷ 47 ∷ after)) ≡ n → (rest : List ℕ) × (body ++ 42 ∷ 47 ∷ after ≡ take n (body ++ 42 ∷ 47 ∷ after) ++ 42 ∷ 47 ∷ rest) → n ≡ length body
    by_front n le len at = omega (arith, le, len, first_end body after (take n (body ++ 42 ∷ 47 ∷ after)) at.0 h at.1 (omega (arith, le, len)))

pub body_len-open : (body : List ℕ) → HasNoEnd body → body_len body ≡ length body
body_len-open body h = ⊎_elim closed (λ f. omega (arith, ltb-false (body_len body) (length body) f, body_len-le-length body)) (either (nat_lt (body_len body) (length body)))
  where
    closed : nat_lt (body_len body) (length body) ≡ true → body_len body ≡ length body
    closed t = let at = closed_at body (ltb-true (body_len body) (length body) t) in absurd (h (take (body_len body) body) at.0 at.1)

-- what the byte of layout or the comment at the front is
pub record Space (bs : List ℕ) (n : ℕ) : Type 0 where
  pub text : List ℕ
  pub rest : List ℕ
  pub whole : bs ≡ text ++ rest
  pub count : length text ≡ n
  pub is_space : IsSpace text rest

abbrev pub IsSpaceAnswer : List ℕ → Result ℕ LexFault → Type 0
IsSpaceAnswer bs (Ok zero) = begins_space bs ≡ false
IsSpaceAnswer bs (Ok (suc n)) = Space bs (suc n)
IsSpaceAnswer bs (Err fault) = IsCommentFault bs fault

-- the answer of the given number of bytes
space_of : (bs : List ℕ) (n : ℕ) → 0 < n → Space bs n → IsSpaceAnswer bs (Ok n)
space_of bs zero some h = absurd (omega arith)
space_of bs (suc n) some h = h

line_comment_is : (bs : List ℕ) → IsSpaceAnswer (37 ∷ bs) (line_comment bs)
unfolding line_comment
line_comment_is bs = ⊎_elim valid broken (is_valid (take (line_len bs) bs))
  where
    whole : 37 ∷ bs ≡ 37 ∷ (take (line_len bs) bs ++ drop (line_len bs) bs)
    whole = ap (λ (xs : List ℕ). 37 ∷ xs) (sym (take-append-drop (line_len bs) bs))

    valid : IsUtf8 (take (line_len bs) bs) → IsSpaceAnswer (37 ∷ bs) (line_comment bs)
    valid u =
        subst (IsSpaceAnswer (37 ∷ bs)) (sym (with_valid 1 (take (line_len bs) bs) (Ok (1 + line_len bs)) u))
        (space_of (37 ∷ bs) (1 + line_len bs) (omega arith) (record {
          text = 37 ∷ take (line_len bs) bs;
          rest = drop (line_len bs) bs;
          whole = whole;
          count = omega (arith, length-take-le (line_len bs) bs (prefix_len-le-length (λ b. not (b == 10)) bs));
          is_space = line (take (line_len bs) bs) (first_line bs) u refl;
        }))

    broken : (IsUtf8 (take (line_len bs) bs) → ⊥) → IsSpaceAnswer (37 ∷ bs) (line_comment bs)
    broken u =
        subst (IsSpaceAnswer (37 ∷ bs)) (sym (with_broken 1 (take (line_len bs) bs) (Ok (1 + line_len bs)) u))
        (broken_line (take (line_len bs) bs) (drop (line_len bs) bs) (first_line bs) whole (record { broken = u; is = refl }))

-- the answer where a body is closed or open
closed_answer : (bs : List ℕ) → body_len bs < length bs → (if nat_lt (body_len bs) (length bs) then Ok (4 + body_len bs) else Err (fault_at Unclosed 0)) ≡ Ok (4 + body_len bs)
closed_answer bs h = rw (lt-ltb (body_len bs) (length bs) h) refl

open_answer : (bs : List ℕ) → length bs ≤ body_len bs → (if nat_lt (body_len bs) (length bs) then Ok (4 + body_len bs) else Err (fault_at Unclosed 0)) ≡ Err (fault_at Unclosed 0)
open_answer bs h = rw (le-ltb (body_len bs) (length bs) h) refl

module _ (bs : List ℕ) where
  open_whole : length bs ≤ body_len bs → take (body_len bs) bs ≡ bs
  open_whole h = take_all (body_len bs) bs h

  block_valid : IsUtf8 (take (body_len bs) bs) → IsSpaceAnswer (47 ∷ 42 ∷ bs) (block_comment bs)
  unfolding block_comment
  block_valid u = ⊎_elim (λ t. closed (ltb-true (body_len bs) (length bs) t)) (λ f. open_at (ltb-false (body_len bs) (length bs) f)) (either (nat_lt (body_len bs) (length bs)))
    where
      answer : Result ℕ LexFault
      answer = if nat_lt (body_len bs) (length bs) then Ok (4 + body_len bs) else Err (fault_at Unclosed 0)

      same : with_body 2 (take (body_len bs) bs) answer ≡ answer
      same = with_valid 2 (take (body_len bs) bs) answer u

      closed : body_len bs < length bs → IsSpaceAnswer (47 ∷ 42 ∷ bs) (block_comment bs)
      closed h =
          let c = body_closed bs h in
          subst (IsSpaceAnswer (47 ∷ 42 ∷ bs)) (sym (same ∙ closed_answer bs h))
          (space_of (47 ∷ 42 ∷ bs) (4 + body_len bs) (omega arith) (record {
            text = 47 ∷ 42 ∷ (take (body_len bs) bs ++ 42 ∷ 47 ∷ []);
            rest = c.after;
            whole = ap (λ (xs : List ℕ). 47 ∷ 42 ∷ xs) (c.whole ∙ end_two (take (body_len bs) bs) c.after);
            count = omega (arith, length-append (take (body_len bs) bs) (42 ∷ 47 ∷ []), length-take-le (body_len bs) bs (body_len-le-length bs));
            is_space = block (take (body_len bs) bs) c.first u refl;
          }))

      open_at : length bs ≤ body_len bs → IsSpaceAnswer (47 ∷ 42 ∷ bs) (block_comment bs)
      open_at h =
          let P : List ℕ → Type 0 = λ xs. IsUtf8 xs in
          subst (IsSpaceAnswer (47 ∷ 42 ∷ bs)) (sym (same ∙ open_answer bs h)) (unclosed bs (body_open bs h) (subst P (open_whole h) u) refl refl)

  block_broken : (IsUtf8 (take (body_len bs) bs) → ⊥) → IsSpaceAnswer (47 ∷ 42 ∷ bs) (block_comment bs)
  unfolding block_comment
  block_broken u =
      subst (IsSpaceAnswer (47 ∷ 42 ∷ bs)) (sym (with_broken 2 (take (body_len bs) bs) _ u))
      (⊎_elim (λ t. closed (ltb-true (body_len bs) (length bs) t)) (λ f. open_at (ltb-false (body_len bs) (length bs) f)) (either (nat_lt (body_len bs) (length bs))))
    where
      here : LexFault
      here = fault_at BadByte (2 + utf8_valid_len (take (body_len bs) bs))

      closed : body_len bs < length bs → IsCommentFault (47 ∷ 42 ∷ bs) here
      closed h = let c = body_closed bs h in broken_block (take (body_len bs) bs) c.after c.first (ap (λ (xs : List ℕ). 47 ∷ 42 ∷ xs) c.whole) (record { broken = u; is = refl })

      open_at : length bs ≤ body_len bs → IsCommentFault (47 ∷ 42 ∷ bs) here
      open_at h =
          let P : List ℕ → Type 0 = λ xs. IsUtf8 xs in
          broken_open bs (body_open bs h) refl (record { broken = λ v. u (subst P (sym (open_whole h)) v); is = ap (λ (xs : List ℕ). fault_at BadByte (2 + utf8_valid_len xs)) (open_whole h) })

block_comment_is : (bs : List ℕ) → IsSpaceAnswer (47 ∷ 42 ∷ bs) (block_comment bs)
block_comment_is bs = ⊎_elim (block_valid bs) (block_broken bs) (is_valid (take (body_len bs) bs))

if_space : (bs : List ℕ) (t : Bool) (x y : Result ℕ LexFault) → (t ≡ true → IsSpaceAnswer bs x) → (t ≡ false → IsSpaceAnswer bs y) → IsSpaceAnswer bs (if t then x else y)
if_space bs true x y h k = h refl
if_space bs false x y h k = k refl

none_space : (a b c : Bool) → a ≡ false → b ≡ false → c ≡ false → (a || b || c) ≡ false
none_space a b c h k l = rw (h, k, l) refl

pub space_is : (bs : List ℕ) → IsSpaceAnswer bs (space_at bs)
space_is [] = refl
space_is (b ∷ bs) =
    if_space (b ∷ bs) (is_layout b) _ _ by_layout
    (λ l. if_space (b ∷ bs) (b == 37) _ _ by_percent
    (λ p. if_space (b ∷ bs) (begins_comment (b ∷ bs)) _ _ by_block
    (λ c. none_space (is_layout b) (b == 37) (begins_comment (b ∷ bs)) l p c)))
  where
    by_layout : is_layout b ≡ true → Space (b ∷ bs) 1
    by_layout t = record { text = b ∷ []; rest = bs; whole = refl; count = refl; is_space = layout b t refl }

    by_percent : (b == 37) ≡ true → IsSpaceAnswer (b ∷ bs) (line_comment bs)
    by_percent t = rw (eqb-true b 37 t) (line_comment_is bs)

    by_block : begins_comment (b ∷ bs) ≡ true → IsSpaceAnswer (b ∷ bs) (block_comment (drop 1 bs))
    by_block t =
        let parts = and_true (b == 47) (begins_with 42 bs) t in
        let next = begins_is 42 bs parts.1 in
        let P : List ℕ → Type 0 = λ xs. IsSpaceAnswer xs (block_comment (drop 1 (drop 1 xs))) in
        let whole : b ∷ bs ≡ 47 ∷ 42 ∷ next.0 = ap (λ x. x ∷ bs) (eqb-true b 47 parts.0) ∙ ap (λ (xs : List ℕ). 47 ∷ xs) next.1 in
        subst P (sym whole) (block_comment_is next.0)

-- a comment is found by its form
line_comment_at : (body after : List ℕ) (answer : Result ℕ LexFault) → IsLine body after → with_body 1 body (Ok (1 + length body)) ≡ answer → line_comment (body ++ after) ≡ answer
unfolding line_comment
line_comment_at body after answer l is =
    let len = line_len-IsLine body after l in
    let front : take (length body) (body ++ after) ≡ body = take_at body after (length body) refl in
    rw len (rw front is)

closed_comment_at : (body after : List ℕ) (answer : Result ℕ LexFault) → EndsFirst body → with_body 2 body (Ok (4 + length body)) ≡ answer → block_comment (body ++ 42 ∷ 47 ∷ after) ≡ answer
unfolding block_comment
closed_comment_at body after answer e is =
    let len = body_len-end body after e in
    let front : take (length body) (body ++ 42 ∷ 47 ∷ after) ≡ body = take_at body (42 ∷ 47 ∷ after) (length body) refl in
    let closed : nat_lt (length body) (length (body ++ 42 ∷ 47 ∷ after)) ≡ true = lt-ltb _ _ (omega (arith, length-append body (42 ∷ 47 ∷ after))) in
    rw len (rw front (rw closed is))

open_comment_at : (body : List ℕ) (answer : Result ℕ LexFault) → HasNoEnd body → with_body 2 body (Err (fault_at Unclosed 0)) ≡ answer → block_comment body ≡ answer
unfolding block_comment
open_comment_at body answer o is =
    let len = body_len-open body o in
    let front : take (length body) body ≡ body = take_all (length body) body (omega arith) in
    rw len (rw front (rw (le-ltb (length body) (length body) (omega arith)) is))

pub space_found : (text after : List ℕ) → IsSpace text after → space_at (text ++ after) ≡ Ok (length text)
space_found text after (layout b t whole) = rw whole (rw t refl)
space_found text after (line body l u whole) =
    rw whole (line_comment_at body after (Ok (length (37 ∷ body))) l (with_valid 1 body (Ok (1 + length body)) u ∙ ap (λ n. Ok n) (omega arith)))
space_found text after (block body e u whole) =
    rw whole (rw (append_assoc body (42 ∷ 47 ∷ []) after) (closed_comment_at body after (Ok (length (47 ∷ 42 ∷ (body ++ 42 ∷ 47 ∷ [])))) e
    (with_valid 2 body (Ok (4 + length body)) u ∙ ap (λ n. Ok n) (omega (arith, length-append body (42 ∷ 47 ∷ []))))))

pub comment_fault_found : (bytes : List ℕ) (fault : LexFault) → IsCommentFault bytes fault → space_at bytes ≡ Err fault
comment_fault_found bytes fault (broken_line body after l whole b) =
    ap space_at whole ∙ line_comment_at body after (Err fault) l (with_broken 1 body (Ok (1 + length body)) b.broken ∙ ap (λ (f : LexFault). Err f) (sym b.is))
comment_fault_found bytes fault (broken_block body after e whole b) =
    ap space_at whole ∙ closed_comment_at body after (Err fault) e (with_broken 2 body (Ok (4 + length body)) b.broken ∙ ap (λ (f : LexFault). Err f) (sym b.is))
comment_fault_found bytes fault (broken_open body o whole b) =
    ap space_at whole ∙ open_comment_at body (Err fault) o (with_broken 2 body (Err (fault_at Unclosed 0)) b.broken ∙ ap (λ (f : LexFault). Err f) (sym b.is))
comment_fault_found bytes fault (unclosed body o u whole is) =
    ap space_at whole ∙ open_comment_at body (Err fault) o (with_valid 2 body (Err (fault_at Unclosed 0)) u ∙ ap (λ (f : LexFault). Err f) (sym is))
