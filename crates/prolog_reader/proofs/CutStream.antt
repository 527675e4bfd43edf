-- The tokens of a text stay where it goes on otherwise after them, and marks after them are tokens.
use Rattle.std.proofs.Common.{◌≡◌, ℕ, ◌+◌, ◌<◌, ◌≤◌, ◌==◌, ◌||◌, nat_lt, Bool, true, false, List, [], ◌∷◌, ◌++◌, map, length, drop, Option, Some, None, Result, Ok, Err, inl, inr, refl, sym, ◌∙◌, ap, subst, append_assoc, append-nil, length-append, length-drop, arith}
use Rattle.std.specs.Char.{is_digit as is_digit_in}
use Rattle.std.proofs.lemmas.Bool.{eqb-true, eqb-false, lt-ltb}
use Rattle.std.proofs.lemmas.List.{drop_at, drop-drop}
use Rattle.prolog_tokens.specs.Bytes.{is_small, is_capital, is_word, is_layout, is_graphic, begins_with, begins_comment}
use Rattle.prolog_tokens.specs.Places.{further}
use Rattle.prolog_tokens.specs.Layout.{gap_len}
use Rattle.prolog_tokens.specs.Tokens.{Answer, mark_at, token_at}
use Rattle.prolog_tokens.specs.Cursor.{Cursor, placed, next_of}
use Rattle.prolog_tokens.specs.Forms.{IsRun, IsLineEnd, SpellsInteger, decimal, based, code, IsOfForm}
use Rattle.prolog_tokens.specs.Gaps.{IsSpace, layout, line, block, IsGap, nothing, more, begins_space}
use Rattle.prolog_tokens.specs.Next.{IsNextToken, IsNext}
use Rattle.prolog_tokens.specs.Stream.{Lexes, ends, goes_on}
use Rattle.prolog_tokens.specs.declared.token.TokenKind.{TokenKind}
use Rattle.prolog_tokens.specs.declared.token.TokenKind.TheVariants as kind
use Rattle.prolog_tokens.specs.declared.token.Token.{Token}
use Rattle.prolog_tokens.specs.declared.fault.LexFault.{LexFault}
use Rattle.prolog_tokens.proofs.FitLemmas.{and_false}
use Rattle.prolog_tokens.proofs.WholeGapLemmas.{gap_ends, gap_len-IsGap}
use Rattle.prolog_tokens.proofs.NextLemmas.{or_false, or_first, no_space_at, next_behind, next_is, no_next, token_within}
use Rattle.prolog_reader.specs.Completion.{end_behind}
use Rattle.prolog_reader.proofs.Marks.{Mark, paren, underscore, paren_end, bracket, bracket_end, brace_end, dot, mark_byte, mark_kind, Fine, AllFine}
use Rattle.prolog_reader.proofs.CutLemmas.{Separates, opens, lists, spaces, name_kind, token_cut}

-- ---- gaps

-- the same first byte
abbrev SameFirst : List ℕ → List ℕ → Type 0
SameFirst (b ∷ bs) (c ∷ cs) = b ≡ c
SameFirst _ _ = ⊥

line_end_cut : (rest after after' : List ℕ) → SameFirst after after' → IsLineEnd (rest ++ after) → IsLineEnd (rest ++ after')
line_end_cut (r ∷ rest) after after' e h = h
line_end_cut [] [] after' e h = absurd e
line_end_cut [] (b ∷ bs) [] e h = absurd e
line_end_cut [] (b ∷ bs) (c ∷ cs) e h = sym e ∙ h

space_cut : (text rest after after' : List ℕ) → SameFirst after after' → IsSpace text (rest ++ after) → IsSpace text (rest ++ after')
space_cut text rest after after' e (layout b is whole) = layout b is whole
space_cut text rest after after' e (line body h utf whole) = line body (record { no_newline = h.no_newline; ended = line_end_cut rest after after' e h.ended }) utf whole
space_cut text rest after after' e (block body first utf whole) = block body first utf whole

gap_cut : {gap after : List ℕ} → IsGap gap after → (after' : List ℕ) → SameFirst after after' → IsGap gap after'
gap_cut nothing after' e = nothing
gap_cut (more {text = text} {rest = rest} {after = after} space later) after' e = more (space_cut text rest after after' e space) (gap_cut later after' e)

no_comment : (bs : List ℕ) → begins_space bs ≡ false → begins_comment bs ≡ false
no_comment [] h = refl
no_comment (b ∷ bs) h = or_false (is_layout b || (b == 37)) (begins_comment (b ∷ bs)) h

module _ (b : Bool) (s : ℕ) (sep : Separates b s) (others : List ℕ) where
  not_star : (b : Bool) (s : ℕ) → Separates b s → (s == 42) ≡ false
  not_star b s opens = refl
  not_star b s lists = refl
  not_star b s spaces = refl

  begins_space_cut : (text w x : List ℕ) → 0 < length text → begins_space (text ++ (w ++ x)) ≡ false → begins_space (text ++ (w ++ s ∷ others)) ≡ false
  begins_space_cut [] w x some h = absurd (omega (arith, some))
  begins_space_cut (c ∷ d ∷ text) w x some h = h
  begins_space_cut (c ∷ []) (d ∷ w) x some h = h
  begins_space_cut (c ∷ []) [] x some h =
      rw (not_star b s sep) (rw (and_false (c == 47)) (rw (or_first (is_layout c || (c == 37)) (begins_comment (c ∷ x)) h) refl))

  -- ---- one token

  -- the token after a gap
  next_placed : (c : Cursor) → c.at ≤ length c.text → (gap after : List ℕ) → drop c.at c.text ≡ gap ++ after → IsGap gap after → begins_space after ≡ false → 0 < length after
      → next_of c ≡ placed (c.at + length gap) (token_at after)
  next_placed c within gap after whole is_gap apart some =
      let stops : gap_len 0 after ≡ Ok 0 = gap_ends after (no_space_at after apart) in
      let len : gap_len 0 (drop c.at c.text) ≡ Ok (length gap) = ap (gap_len 0) whole ∙ gap_len-IsGap is_gap ∙ ap (further (length gap)) stops ∙ ap (λ m. Ok m) (omega arith) in
      let here : nat_lt (c.at + length gap) (length c.text) ≡ true = lt-ltb _ _ (omega (arith, ap length whole, length-append gap after, length-drop c.at c.text, some, within)) in
      next_behind c within gap after whole len ∙ rw here refl

  some_is : (t u : Token) → ◌≡◌ {A = Result (Option Token) LexFault} (Ok (Some t)) (Ok (Some u)) → t ≡ u
  some_is t u h = cc

  token_back : (start len : ℕ) (r : Answer) (t : Token) → placed start r ≡ Ok (Some t) → t.end ≡ start + len → r ≡ Ok (t.kind, len)
  token_back start len (Ok r) t e l =
      let same = some_is _ t e in
      let kind_is = ap (λ (u : Token). u.kind) same in
      let end_is = ap (λ (u : Token). u.end) same in
      let count : r.1 ≡ len = omega (arith, end_is, l) in
      (λ i. Ok (kind_is i, count i))
  token_back start len (Err fault) t e l = cc

  same_first : (text y z : List ℕ) → 0 < length text → SameFirst (text ++ y) (text ++ z)
  same_first [] y z some = absurd (omega (arith, some))
  same_first (c ∷ text) y z some = refl

  next_cut : (text text' w x : List ℕ) (at : ℕ) (t : Token) → at ≤ length text → at ≤ length text' → next_of (record { text = text; at = at }) ≡ Ok (Some t)
      → (n : IsNextToken (record { text = text; at = at }) t) → n.after ≡ w ++ x → drop at text' ≡ n.gap ++ (n.text ++ (w ++ s ∷ others)) → 0 < length n.text
      → (w ≡ [] → b ≡ name_kind t.kind) → (begins_with 39 w ≡ true → 2 ≤ length w) → next_of (record { text = text'; at = at }) ≡ Ok (Some t)
  next_cut text text' w x at t within within' e n rest whole some name long =
      let old : List ℕ = n.text ++ (w ++ x) in
      let new : List ℕ = n.text ++ (w ++ s ∷ others) in
      let old_whole : drop at text ≡ n.gap ++ old = n.whole ∙ ap (λ (xs : List ℕ). n.gap ++ (n.text ++ xs)) rest in
      let old_gap : IsGap n.gap old = gap_cut n.is_gap old (same_first n.text n.after (w ++ x) some) in
      let old_apart : begins_space old ≡ false = ap (λ (xs : List ℕ). begins_space (n.text ++ xs)) (sym rest) ∙ n.no_space in
      let old_next = next_placed (record { text = text; at = at }) within n.gap old old_whole old_gap old_apart (omega (arith, length-append n.text (w ++ x), some)) in
      let read = token_back (at + length n.gap) (length n.text) (token_at old) t (sym old_next ∙ e) (n.end ∙ ap (λ m. m + length n.text) n.start) in
      let P : List ℕ → Type 0 = λ xs. IsOfForm t.kind n.text xs in
      let again = token_cut b s sep others t.kind n.text w x name long (no_comment old old_apart) (subst P rest n.longest.of_form) read in
      let new_next = next_placed (record { text = text'; at = at }) within' n.gap new whole (gap_cut n.is_gap new (same_first n.text n.after (w ++ s ∷ others) some)) (begins_space_cut n.text w x some old_apart)
      (omega (arith, length-append n.text (w ++ s ∷ others), some)) in
      new_next ∙ ap (placed (at + length n.gap)) again ∙ ap (λ m. placed m (Ok (t.kind, length n.text))) (sym n.start) ∙ ap (λ m. Ok (Some (record { kind = t.kind; start = t.start; end = m }))) (sym n.end)

-- ---- the place after tokens

-- a token by its forms
next_token : (text : List ℕ) (at : ℕ) (t : Token) → at ≤ length text → next_of (record { text = text; at = at }) ≡ Ok (Some t) → IsNextToken (record { text = text; at = at }) t
next_token text at t within e = let P : Result (Option Token) LexFault → Type 0 = λ r. IsNext (record { text = text; at = at }) r in subst P e (next_is (record { text = text; at = at }) within)

pub begins_later : (text : List ℕ) (at : ℕ) (t : Token) → at ≤ length text → next_of (record { text = text; at = at }) ≡ Ok (Some t) → at ≤ t.start
begins_later text at t within e = let n = next_token text at t within e in omega (arith, n.start)

ends_later : (text : List ℕ) (ts later : List Token) (fault : Option LexFault) (at : ℕ) → at ≤ length text → Lexes (record { text = text; at = at }) (ts ++ later) fault → at ≤ end_behind at ts
ends_later text [] later fault at within h = omega arith
ends_later text (t ∷ ts) later fault at within (goes_on e h) =
    let l = begins_later text at t within e in
    let in_text = token_within text t (at, e) in
    let r = ends_later text ts later fault t.end in_text.1 h in
    omega (arith, l, in_text.0, r)

-- ---- a token that begins with a quote

quote_no_gap : {gap after : List ℕ} → IsGap gap after → (gs : List ℕ) → gap ≡ 39 ∷ gs → ⊥
quote_no_gap nothing gs e = cc
quote_no_gap (more {text = text} {rest = rest} space later) gs e = by_space space e
  where
    first : (c : ℕ) (xs ys : List ℕ) → c ∷ xs ≡ 39 ∷ ys → c ≡ 39
    first c xs ys h = cc

    by_space : {after' : List ℕ} → IsSpace text after' → text ++ rest ≡ 39 ∷ gs → ⊥
    by_space (layout c is whole) h =
        let c_is = first c rest gs (ap (λ (xs : List ℕ). xs ++ rest) (sym whole) ∙ h) in
        let both = sym is ∙ ap is_layout c_is in
        cc
    by_space (line body l utf whole) h = let c_is = first 37 (body ++ rest) gs (ap (λ (xs : List ℕ). xs ++ rest) (sym whole) ∙ h) in absurd (omega (arith, c_is))
    by_space (block body f utf whole) h = let c_is = first 47 _ gs (ap (λ (xs : List ℕ). xs ++ rest) (sym whole) ∙ h) in absurd (omega (arith, c_is))

other_byte : (text : List ℕ) (c : ℕ) (cs rest : List ℕ) → (c == 39) ≡ false → text ≡ c ∷ cs → text ≡ 39 ∷ rest → ⊥
other_byte text c cs rest apart h e = eqb-false c 39 apart (first c cs rest (sym h ∙ e))
  where
    first : (c : ℕ) (xs ys : List ℕ) → c ∷ xs ≡ 39 ∷ ys → c ≡ 39
    first c xs ys h = cc

other_run : (p q : ℕ → Bool) (text rest : List ℕ) → p 39 ≡ false → IsRun p q text → text ≡ 39 ∷ rest → ⊥
other_run p q text rest apart h e =
    let P : List ℕ → Type 0 = λ xs. IsRun p q xs in
    let both = sym apart ∙ (subst P e h).0 in
    cc

other_integer : (n : ℕ) (text rest : List ℕ) → SpellsInteger n text → text ≡ 39 ∷ rest → ⊥
other_integer n text rest (decimal are is) e = other_run (λ b. is_digit_in b 10) (λ b. is_digit_in b 10) text rest refl are e
other_integer n text rest (based base letter digits is are number whole) e = other_byte text 48 (letter ∷ digits) rest refl whole e
other_integer n text rest (code part spells whole) e = other_byte text 48 (39 ∷ part) rest refl whole e

-- only a quoted name begins with a quote, and it has two
quoted_long : (k : TokenKind) (text after : List ℕ) → IsOfForm k text after → (rest : List ℕ) → text ≡ 39 ∷ rest → 2 ≤ length text
unfolding is_graphic
quoted_long kind.Name text after (inl h) rest e = absurd (other_run is_small is_word text rest refl h e)
quoted_long kind.Name text after (inr (inl h)) rest e = absurd (other_run is_graphic is_graphic text rest refl h.run e)
quoted_long kind.Name text after (inr (inr (inl h))) rest e = absurd (other_byte text 33 [] rest refl h e)
quoted_long kind.Name text after (inr (inr (inr h))) rest e = absurd (other_byte text 59 [] rest refl h e)
quoted_long kind.Quoted text after h rest e = omega (arith, ap length h.whole, length-append h.body (39 ∷ []))
quoted_long kind.Var text after h rest e = absurd (other_run (λ b. is_capital b || (b == 95)) is_word text rest refl h e)
quoted_long (kind.Int z) text after h rest e = absurd (other_integer h.0 text rest h.2 e)
quoted_long kind.Text text after h rest e = absurd (other_byte text 34 (h.body ++ 34 ∷ []) rest refl h.whole e)
quoted_long kind.Paren text after h rest e = absurd (other_byte text 40 [] rest refl h e)
quoted_long kind.ParenEnd text after h rest e = absurd (other_byte text 41 [] rest refl h e)
quoted_long kind.List text after h rest e = absurd (other_byte text 91 [] rest refl h e)
quoted_long kind.ListEnd text after h rest e = absurd (other_byte text 93 [] rest refl h e)
quoted_long kind.Curly text after h rest e = absurd (other_byte text 123 [] rest refl h e)
quoted_long kind.CurlyEnd text after h rest e = absurd (other_byte text 125 [] rest refl h e)
quoted_long kind.Comma text after h rest e = absurd (other_byte text 44 [] rest refl h e)
quoted_long kind.Bar text after h rest e = absurd (other_byte text 124 [] rest refl h e)
quoted_long kind.End text after h rest e = absurd (other_byte text 46 [] rest refl h.0 e)

begins_is : (c : ℕ) (bs : List ℕ) → begins_with c bs ≡ true → (rest : List ℕ) × (bs ≡ c ∷ rest)
begins_is c [] h = cc
begins_is c (d ∷ bs) h = (bs, ap (λ y. y ∷ bs) (eqb-true d c h))

-- a beginning of what is left that begins with a quote and has the next token has two bytes
quote_covered : (text : List ℕ) (at : ℕ) (t : Token) (w x : List ℕ) → at ≤ length text → next_of (record { text = text; at = at }) ≡ Ok (Some t) → drop at text ≡ w ++ x → t.end ≤ at + length w
    → begins_with 39 w ≡ true → 2 ≤ length w
quote_covered text at t w x within e whole covers begins = by_gap n.gap refl n.is_gap
  where
    n : IsNextToken (record { text = text; at = at }) t
    n = next_token text at t within e

    q : (rest : List ℕ) × (w ≡ 39 ∷ rest)
    q = begins_is 39 w begins

    front : n.gap ++ (n.text ++ n.after) ≡ 39 ∷ (q.0 ++ x)
    front = sym n.whole ∙ whole ∙ ap (λ (xs : List ℕ). xs ++ x) q.1

    some : 0 < length n.text
    some = let l = token_within text t (at, e) in omega (arith, l.0, n.end)

    head : (c : ℕ) (xs ys : List ℕ) → c ∷ xs ≡ 39 ∷ ys → c ≡ 39
    head c xs ys h = cc

    by_text : (tt : List ℕ) → n.text ≡ tt → n.gap ≡ [] → 2 ≤ length w
    by_text [] is none = absurd (omega (arith, some, ap length is))
    by_text (c ∷ tt) is none =
        let c_is = head c (tt ++ n.after) (q.0 ++ x) (ap (λ (xs : List ℕ). xs ++ n.after) (sym is) ∙ ap (λ (xs : List ℕ). xs ++ (n.text ++ n.after)) (sym none) ∙ front) in
        let long = quoted_long t.kind n.text n.after n.longest.of_form tt (is ∙ ap (λ y. y ∷ tt) c_is) in
        omega (arith, long, covers, n.start, n.end, ap length none)

    by_gap : (gap : List ℕ) → n.gap ≡ gap → IsGap n.gap (n.text ++ n.after) → 2 ≤ length w
    by_gap [] is is_gap = by_text n.text refl is
    by_gap (c ∷ gap) is is_gap =
        let c_is = head c (gap ++ (n.text ++ n.after)) (q.0 ++ x) (ap (λ (xs : List ℕ). xs ++ (n.text ++ n.after)) (sym is) ∙ front) in
        absurd (quote_no_gap is_gap gap (is ∙ ap (λ y. y ∷ gap) c_is))

-- ---- all tokens

-- the last token, if there is one, is a name exactly where this is so
abbrev pub Behind : Bool → List Token → Type 0
Behind b [] = Unit {0}
Behind b (t ∷ []) = b ≡ name_kind t.kind
Behind b (t ∷ u ∷ ts) = Behind b (u ∷ ts)

-- a longer beginning goes on after a shorter one
split : (xs ys us vs : List ℕ) → xs ++ ys ≡ us ++ vs → length us ≤ length xs → (ws : List ℕ) × (xs ≡ us ++ ws) × (vs ≡ ws ++ ys)
split xs ys [] vs e l = (xs, refl, sym e)
split [] ys (u ∷ us) vs e l = absurd (omega (arith, l))
split (x ∷ xs) ys (u ∷ us) vs e l =
    let r = split xs ys us vs (tail x u (xs ++ ys) (us ++ vs) e) (omega (arith, l)) in
    (r.0, (λ i. head x u (xs ++ ys) (us ++ vs) e i ∷ r.1 i), r.2)
  where
    head : (x u : ℕ) (xs us : List ℕ) → x ∷ xs ≡ u ∷ us → x ≡ u
    head x u xs us e = cc

    tail : (x u : ℕ) (xs us : List ℕ) → x ∷ xs ≡ u ∷ us → xs ≡ us
    tail x u xs us e = cc

drop_behind : (text p q : List ℕ) (at e : ℕ) → drop at text ≡ p ++ q → e ≡ at + length p → drop e text ≡ q
drop_behind text p q at e whole is = ap (λ m. drop m text) is ∙ sym (drop-drop (length p) at text) ∙ ap (drop (length p)) whole ∙ drop_at p q (length p) refl

module _ (b : Bool) (s : ℕ) (sep : Separates b s) (others text text' : List ℕ) (new : List Token) where
  pub lexes_cut : (ts later : List Token) (fault : Option LexFault) (at : ℕ) (w x : List ℕ) → Lexes (record { text = text; at = at }) (ts ++ later) fault
      → drop at text ≡ w ++ x → drop at text' ≡ w ++ s ∷ others → at ≤ length text → at ≤ length text' → end_behind at ts ≡ at + length w → Behind b ts
      → Lexes (record { text = text'; at = end_behind at ts }) new None → Lexes (record { text = text'; at = at }) (ts ++ new) None
  lexes_cut [] later fault at w x h whole whole' within within' end behind last = last
  lexes_cut (t ∷ ts) later fault at w x (goes_on e h) whole whole' within within' end behind last =
      goes_on (next_cut b s sep others text text' parts.0 x at t within within' e n parts.2 here some (name ts h end behind) (long ts h end))
      (lexes_cut ts later fault t.end parts.0 x h (drop_behind text (n.gap ++ n.text) (parts.0 ++ x) at t.end there at_end) (drop_behind text' (n.gap ++ n.text) (parts.0 ++ s ∷ others) at t.end there' at_end)
      bounds.1 (omega (arith, at_end, length-append n.gap n.text, ap length there', length-append (n.gap ++ n.text) (parts.0 ++ s ∷ others), length-drop at text', within'))
      (omega (arith, end, at_end, ap length parts.1, length-append (n.gap ++ n.text) parts.0)) (rest_behind ts behind) last)
    where
      n : IsNextToken (record { text = text; at = at }) t
      n = next_token text at t within e

      bounds : (t.start < t.end) × (t.end ≤ length text)
      bounds = token_within text t (at, e)

      some : 0 < length n.text
      some = omega (arith, bounds.0, n.end)

      at_end : t.end ≡ at + length (n.gap ++ n.text)
      at_end = omega (arith, n.start, n.end, length-append n.gap n.text)

      ends_after : t.end ≤ end_behind t.end ts
      ends_after = ends_later text ts later fault t.end bounds.1 h

      parts : (ws : List ℕ) × (w ≡ (n.gap ++ n.text) ++ ws) × (n.after ≡ ws ++ x)
      parts = split w x (n.gap ++ n.text) n.after (sym whole ∙ n.whole ∙ sym (append_assoc n.gap n.text n.after)) (omega (arith, at_end, ends_after, end))

      there : drop at text ≡ (n.gap ++ n.text) ++ (parts.0 ++ x)
      there = whole ∙ ap (λ (xs : List ℕ). xs ++ x) parts.1 ∙ append_assoc (n.gap ++ n.text) parts.0 x

      there' : drop at text' ≡ (n.gap ++ n.text) ++ (parts.0 ++ s ∷ others)
      there' = whole' ∙ ap (λ (xs : List ℕ). xs ++ s ∷ others) parts.1 ∙ append_assoc (n.gap ++ n.text) parts.0 (s ∷ others)

      here : drop at text' ≡ n.gap ++ (n.text ++ (parts.0 ++ s ∷ others))
      here = there' ∙ append_assoc n.gap n.text (parts.0 ++ s ∷ others)

      left : end_behind t.end ts ≡ t.end + length parts.0
      left = omega (arith, end, at_end, ap length parts.1, length-append (n.gap ++ n.text) parts.0)

      rest_behind : (ts : List Token) → Behind b (t ∷ ts) → Behind b ts
      rest_behind [] h = tt
      rest_behind (u ∷ ts) h = h

      -- where nothing is left, this is the last token
      name : (ts : List Token) → Lexes (record { text = text; at = t.end }) (ts ++ later) fault → end_behind at (t ∷ ts) ≡ at + length w → Behind b (t ∷ ts) → parts.0 ≡ [] → b ≡ name_kind t.kind
      name [] h end behind none = behind
      name (u ∷ ts) (goes_on e' h') end behind none =
          let u_bounds = token_within text u (t.end, e') in
          let later_end = ends_later text ts later fault u.end u_bounds.1 h' in
          let u_begins = begins_later text t.end u bounds.1 e' in
          absurd (omega (arith, u_bounds.0, later_end, u_begins, end, at_end, ap length parts.1, length-append (n.gap ++ n.text) parts.0, ap length none))

      long : (ts : List Token) → Lexes (record { text = text; at = t.end }) (ts ++ later) fault → end_behind at (t ∷ ts) ≡ at + length w → begins_with 39 parts.0 ≡ true → 2 ≤ length parts.0
      long [] h end begins =
          let q = begins_is 39 parts.0 begins in
          absurd (omega (arith, end, at_end, ap length parts.1, length-append (n.gap ++ n.text) parts.0, ap length q.1))
      long (u ∷ ts) (goes_on e' h') end begins =
          let u_bounds = token_within text u (t.end, e') in
          let later_end = ends_later text ts later fault u.end u_bounds.1 h' in
          quote_covered text t.end u parts.0 x bounds.1 e' (drop_behind text (n.gap ++ n.text) (parts.0 ++ x) at t.end there at_end)
          (omega (arith, later_end, end, at_end, ap length parts.1, length-append (n.gap ++ n.text) parts.0)) begins

-- ---- marks

-- the bytes of marks, and their tokens from a place on
abbrev pub mark_bytes : List Mark → List ℕ
mark_bytes ms = map mark_byte ms

abbrev pub mark_token : ℕ → Mark → Token
mark_token at m = record { kind = mark_kind m; start = at; end = at + 1 }

abbrev pub mark_tokens : ℕ → List Mark → List Token
mark_tokens at [] = []
mark_tokens at (m ∷ ms) = mark_token at m ∷ mark_tokens (at + 1) ms

mark_read : (m : Mark) (ms : List Mark) → Fine m ms → token_at (mark_bytes (m ∷ ms)) ≡ Ok (mark_kind m, 1)
unfolding mark_at is_graphic
mark_read paren ms h = refl
mark_read underscore [] h = absurd h
mark_read underscore (paren ∷ ms) h = absurd h
mark_read underscore (underscore ∷ ms) h = absurd h
mark_read underscore (paren_end ∷ ms) h = refl
mark_read underscore (bracket ∷ ms) h = absurd h
mark_read underscore (bracket_end ∷ ms) h = absurd h
mark_read underscore (brace_end ∷ ms) h = absurd h
mark_read underscore (dot ∷ ms) h = absurd h
mark_read paren_end ms h = refl
mark_read bracket ms h = refl
mark_read bracket_end ms h = refl
mark_read brace_end ms h = refl
mark_read dot ms h = rw h refl

mark_no_space : (m : Mark) (ms : List Mark) → begins_space (mark_bytes (m ∷ ms)) ≡ false
mark_no_space paren ms = refl
mark_no_space underscore ms = refl
mark_no_space paren_end ms = refl
mark_no_space bracket ms = refl
mark_no_space bracket_end ms = refl
mark_no_space brace_end ms = refl
mark_no_space dot ms = refl

module _ (text : List ℕ) where
  first_mark : (gap : List ℕ) (m : Mark) (ms : List Mark) (at : ℕ) → IsGap gap (mark_bytes (m ∷ ms)) → Fine m ms → at ≤ length text → drop at text ≡ gap ++ mark_bytes (m ∷ ms)
      → next_of (record { text = text; at = at }) ≡ Ok (Some (mark_token (at + length gap) m))
  first_mark gap m ms at is_gap fine within whole =
      next_placed true 40 opens [] (record { text = text; at = at }) within gap (mark_bytes (m ∷ ms)) whole is_gap (mark_no_space m ms) (omega arith)
      ∙ ap (placed (at + length gap)) (mark_read m ms fine)

  bare_marks : (ms : List Mark) (at : ℕ) → AllFine ms → at ≤ length text → drop at text ≡ mark_bytes ms → Lexes (record { text = text; at = at }) (mark_tokens at ms) None
  bare_marks [] at fine within whole = let P : List ℕ → Type 0 = λ xs. IsGap xs [] in ends (no_next (record { text = text; at = at }) within (subst P (sym whole) nothing))
  bare_marks (m ∷ ms) at fine within whole =
      let same : at + 0 ≡ at = omega arith in
      goes_on (first_mark [] m ms at nothing fine.0 within whole ∙ ap (λ k. Ok (Some (mark_token k m))) same)
      (bare_marks ms (at + 1) fine.1 (omega (arith, ap length whole, length-drop at text)) (drop_behind text (mark_byte m ∷ []) (mark_bytes ms) at (at + 1) whole refl))

  pub marks_lex : (gap : List ℕ) (ms : List Mark) (at : ℕ) → ((after : List ℕ) → IsGap gap after) → AllFine ms → at ≤ length text → drop at text ≡ gap ++ mark_bytes ms
      → Lexes (record { text = text; at = at }) (mark_tokens (at + length gap) ms) None
  marks_lex gap [] at is_gap fine within whole =
      let P : List ℕ → Type 0 = λ xs. IsGap xs [] in
      ends (no_next (record { text = text; at = at }) within (subst P (sym (whole ∙ append-nil gap)) (is_gap [])))
  marks_lex gap (m ∷ ms) at is_gap fine within whole =
      goes_on (first_mark gap m ms at (is_gap (mark_bytes (m ∷ ms))) fine.0 within whole)
      (bare_marks ms (at + length gap + 1) fine.1 (omega (arith, ap length whole, length-append gap (mark_bytes (m ∷ ms)), length-drop at text, within))
      (drop_behind text (gap ++ mark_byte m ∷ []) (mark_bytes ms) at (at + length gap + 1) (whole ∙ sym (append_assoc gap (mark_byte m ∷ []) (mark_bytes ms))) (omega (arith, length-append gap (mark_byte m ∷ [])))))
