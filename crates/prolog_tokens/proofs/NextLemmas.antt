-- The computed next token is the one of the forms.
use Rattle.std.proofs.Common.{◌≡◌, ℕ, ◌+◌, ◌-◌, ◌<◌, ◌≤◌, ◌||◌, ◌==◌, nat_lt, Bool, true, false, List, [], ◌∷◌, ◌++◌, length, drop, Some, None, Result, Ok, Err, inl, inr, ⊎_elim, refl, sym, ◌∙◌, ap, subst, append-nil, length-append, length-drop, length-take, arith, if◌then◌else◌}
use Rattle.std.specs.Char.{is_digit as is_digit_in}
use Rattle.std.proofs.lemmas.Bool.{ltb-true, ltb-false, lt-ltb, le-ltb, or_parts}
use Rattle.std.proofs.lemmas.List.{drop_at, drop_all, drop-drop, nil_from_length}
use Rattle.prolog_tokens.specs.Bytes.{is_small, is_capital, is_word, is_graphic, is_layout, begins_comment}
use Rattle.prolog_tokens.specs.Places.{moved, further}
use Rattle.prolog_tokens.specs.Layout.{gap_len, space_at}
use Rattle.prolog_tokens.specs.Tokens.{Answer, token_at}
use Rattle.prolog_tokens.specs.Cursor.{Cursor, placed, next_of}
use Rattle.prolog_tokens.specs.Forms.{IsItem, IsOfForm, SpellsInteger, decimal, based, code, IsLongest, IsFault, no_token, byte_in_item, byte_after_zero, open_item, escape_in_item, escape_after_zero, fraction, wide}
use Rattle.prolog_tokens.specs.Gaps.{IsGap, begins_space}
use Rattle.prolog_tokens.specs.Next.{IsNextToken, HasFault, in_gap, in_token, IsNext}
use Rattle.prolog_tokens.specs.Decoding.{IsTokenOf, bytes_of}
use Rattle.prolog_tokens.specs.declared.token.TokenKind.{TokenKind}
use Rattle.prolog_tokens.specs.declared.token.TokenKind.TheVariants as kind
use Rattle.prolog_tokens.specs.declared.token.Token.{Token}
use Rattle.prolog_tokens.specs.declared.fault.LexFault.{LexFault}
use Rattle.prolog_tokens.proofs.CharacterLemmas.{either}
use Rattle.prolog_tokens.proofs.RunLemmas.{length-run}
use Rattle.prolog_tokens.proofs.WholeGapLemmas.{IsWholeGap, gap_ends, whole_gap, gap_len-IsGap, gap_fault_found}
use Rattle.prolog_tokens.proofs.LongestLemmas.{IsMatch, is_match, fault_is_found, only_token}

pub or_false : (a b : Bool) → (a || b) ≡ false → b ≡ false
or_false a b h = (or_parts a b h).1

pub or_first : (a b : Bool) → (a || b) ≡ false → a ≡ false
or_first a b h = (or_parts a b h).0

no_comment : (bs : List ℕ) → begins_space bs ≡ false → begins_comment bs ≡ false
no_comment [] h = refl
no_comment (b ∷ bs) h = or_false (is_layout b || (b == 37)) (begins_comment (b ∷ bs)) h

-- where none begins, none is found
pub no_space_at : (bs : List ℕ) → begins_space bs ≡ false → space_at bs ≡ Ok 0
no_space_at [] h = refl
no_space_at (b ∷ bs) h =
    let rest = or_first (is_layout b || (b == 37)) (begins_comment (b ∷ bs)) h in
    rw (or_first (is_layout b) (b == 37) rest, or_false (is_layout b) (b == 37) rest, or_false (is_layout b || (b == 37)) (begins_comment (b ∷ bs)) h) refl

integer_some : (n : ℕ) (text : List ℕ) → SpellsInteger n text → 0 < length text
integer_some n text (decimal are is) = length-run (λ b. is_digit_in b 10) (λ b. is_digit_in b 10) text are
integer_some n text (based base letter digits is are number whole) = omega (arith, ap length whole)
integer_some n text (code part spells whole) = omega (arith, ap length whole)

-- a fault stands at a byte
fault_some : (bytes : List ℕ) (fault : LexFault) → IsFault bytes fault → 0 < length bytes
fault_some bytes fault (no_token some none single double is) = some
fault_some bytes fault (byte_in_item quote body after o h is) = omega (arith, ap length o.whole)
fault_some bytes fault (byte_after_zero after whole h is) = omega (arith, ap length whole)
fault_some bytes fault (open_item quote body after o h is) = omega (arith, ap length o.whole)
fault_some bytes fault (escape_in_item quote body after o none apart is) = omega (arith, ap length o.whole)
fault_some bytes fault (escape_after_zero after whole none is) = omega (arith, ap length whole)
fault_some bytes fault (fraction digits after d are narrow digit whole is) = omega (arith, ap length whole, length-append digits (46 ∷ d ∷ after))
fault_some bytes fault (wide n text after spells large whole is) = omega (arith, ap length whole, length-append text after, integer_some n text spells)

item_some : (quote : ℕ) (text after : List ℕ) → IsItem quote text after → 0 < length text
item_some quote text after h = omega (arith, ap length h.whole)

one_some : (b : ℕ) (text : List ℕ) → text ≡ b ∷ [] → 0 < length text
one_some b text e = omega (arith, ap length e)

-- a token has a byte
form_some : (of : TokenKind) (text after : List ℕ) → IsOfForm of text after → 0 < length text
form_some kind.Name text after (inl h) = length-run is_small is_word text h
form_some kind.Name text after (inr (inl h)) = length-run is_graphic is_graphic text h.run
form_some kind.Name text after (inr (inr (inl h))) = one_some 33 text h
form_some kind.Name text after (inr (inr (inr h))) = one_some 59 text h
form_some kind.Quoted text after h = item_some 39 text after h
form_some kind.Text text after h = item_some 34 text after h
form_some kind.Var text after h = length-run (λ b. is_capital b || (b == 95)) is_word text h
form_some (kind.Int z) text after h = integer_some h.0 text h.2
form_some kind.Paren text after h = one_some 40 text h
form_some kind.ParenEnd text after h = one_some 41 text h
form_some kind.List text after h = one_some 91 text h
form_some kind.ListEnd text after h = one_some 93 text h
form_some kind.Curly text after h = one_some 123 text h
form_some kind.CurlyEnd text after h = one_some 125 text h
form_some kind.Comma text after h = one_some 44 text h
form_some kind.Bar text after h = one_some 124 text h
form_some kind.End text after h = one_some 46 text h.0

module _ (c : Cursor) (within : c.at ≤ length c.text) where
  -- after a gap
  rest_is : (gap after : List ℕ) → drop c.at c.text ≡ gap ++ after → drop (c.at + length gap) c.text ≡ after
  rest_is gap after whole = sym (drop-drop (length gap) c.at c.text) ∙ ap (drop (length gap)) whole ∙ drop_at gap after (length gap) refl

  rest_len : (gap after : List ℕ) → drop c.at c.text ≡ gap ++ after → c.at + length gap + length after ≡ length c.text
  rest_len gap after whole = omega (arith, ap length whole, length-append gap after, length-drop c.at c.text)

  -- where the gap ends, the token there is next
  pub next_behind : (gap after : List ℕ) → drop c.at c.text ≡ gap ++ after → gap_len 0 (drop c.at c.text) ≡ Ok (length gap)
      → next_of c ≡ (if nat_lt (c.at + length gap) (length c.text) then placed (c.at + length gap) (token_at after) else Ok None)
  next_behind gap after whole is = rw is (rw (rest_is gap after whole) refl)

  placed_is : (gap after : List ℕ) → drop c.at c.text ≡ gap ++ after → IsGap gap after → begins_space after ≡ false → (r : Answer) → IsMatch after r → IsNext c (placed (c.at + length gap) r)
  placed_is gap after whole is_gap apart (Ok t) (text, rest, longest, count) =
      let P : List ℕ → Type 0 = λ xs. IsLongest xs t.0 text rest in
      let G : List ℕ → Type 0 = λ xs. IsGap gap xs in
      record {
        gap = gap;
        text = text;
        after = rest;
        whole = whole ∙ ap (λ (xs : List ℕ). gap ++ xs) longest.whole;
        is_gap = subst G longest.whole is_gap;
        no_space = ap begins_space (sym longest.whole) ∙ apart;
        longest = subst P longest.whole longest;
        start = refl;
        end = ap (λ n. c.at + length gap + n) (sym count);
      }
  placed_is gap after whole is_gap apart (Err fault) h = in_token gap after fault whole is_gap apart h refl

  next_by : (r : Result ℕ LexFault) → gap_len 0 (drop c.at c.text) ≡ r → IsWholeGap (drop c.at c.text) r → IsNext c (next_of c)
  next_by r is (inr h) =
      let told = is ∙ h.2 in
      rw told (in_gap h.0 h.1 refl)
  next_by r is (inl (gap, after, whole, is_gap, apart, same)) =
      let e = next_behind gap after whole (is ∙ same) in
      subst (IsNext c) (sym e) (⊎_elim token none (either (nat_lt (c.at + length gap) (length c.text))))
    where
      token : nat_lt (c.at + length gap) (length c.text) ≡ true → IsNext c (if nat_lt (c.at + length gap) (length c.text) then placed (c.at + length gap) (token_at after) else Ok None)
      token t = rw t (placed_is gap after whole is_gap apart (token_at after) (is_match after (no_comment after apart) (omega (arith, rest_len gap after whole, ltb-true _ _ t))))

      none : nat_lt (c.at + length gap) (length c.text) ≡ false → IsNext c (if nat_lt (c.at + length gap) (length c.text) then placed (c.at + length gap) (token_at after) else Ok None)
      none f =
          let nil : after ≡ [] = nil_from_length after (omega (arith, rest_len gap after whole, ltb-false _ _ f)) in
          let all : drop c.at c.text ≡ gap = whole ∙ ap (λ (xs : List ℕ). gap ++ xs) nil ∙ append-nil gap in
          let G : List ℕ → Type 0 = λ xs. IsGap gap xs in
          let H : List ℕ → Type 0 = λ xs. IsGap xs [] in
          rw f (subst H (sym all) (subst G nil is_gap))

  pub next_is : IsNext c (next_of c)
  next_is = next_by (gap_len 0 (drop c.at c.text)) refl (whole_gap (drop c.at c.text))

  -- where only layout and comments are left, there is no token
  pub no_next : IsGap (drop c.at c.text) [] → next_of c ≡ Ok None
  no_next h =
      let all = drop c.at c.text in
      let len : gap_len 0 (drop c.at c.text) ≡ Ok (length (drop c.at c.text)) = ap (gap_len 0) (sym (append-nil all)) ∙ gap_len-IsGap h ∙ ap (λ n. Ok n) (omega arith) in
      let end : nat_lt (c.at + length (drop c.at c.text)) (length c.text) ≡ false = le-ltb _ _ (omega (arith, length-drop c.at c.text)) in
      next_behind all [] (sym (append-nil all)) len ∙ rw end refl

  -- a fault of the table is reported
  pub next_fault : (fault : LexFault) → HasFault c fault → next_of c ≡ Err fault
  next_fault fault (in_gap f h is) = rw (gap_fault_found (drop c.at c.text) f h) (ap (λ (g : LexFault). Err g) (sym is))
  next_fault fault (in_token gap after f whole is_gap apart h is) =
      let stops : gap_len 0 after ≡ Ok 0 = gap_ends after (no_space_at after apart) in
      let len : gap_len 0 (drop c.at c.text) ≡ Ok (length gap) = ap (gap_len 0) whole ∙ gap_len-IsGap is_gap ∙ ap (further (length gap)) stops ∙ ap (λ n. Ok n) (omega arith) in
      let here : nat_lt (c.at + length gap) (length c.text) ≡ true = lt-ltb _ _ (omega (arith, rest_len gap after whole, fault_some after f h)) in
      next_behind gap after whole len ∙ rw here (rw (fault_is_found after f (no_comment after apart) h) (ap (λ (g : LexFault). Err g) (sym is)))

  -- where there is no fault, a token by the forms is the one that is read
  pub only_next : (t : Token) → IsNextToken c t → ((fault : LexFault) → HasFault c fault → ⊥) → next_of c ≡ Ok (Some t)
  only_next t n sound =
      let after = n.text ++ n.after in
      let some = form_some t.kind n.text n.after n.longest.of_form in
      let stops : gap_len 0 after ≡ Ok 0 = gap_ends after (no_space_at after n.no_space) in
      let len : gap_len 0 (drop c.at c.text) ≡ Ok (length n.gap) = ap (gap_len 0) n.whole ∙ gap_len-IsGap n.is_gap ∙ ap (further (length n.gap)) stops ∙ ap (λ m. Ok m) (omega arith) in
      let here : nat_lt (c.at + length n.gap) (length c.text) ≡ true = lt-ltb _ _ (omega (arith, rest_len n.gap after n.whole, length-append n.text n.after, some)) in
      let no_fault : (fault : LexFault) → IsFault after fault → ⊥ = λ fault h. sound (moved (c.at + length n.gap) fault) (in_token n.gap after fault n.whole n.is_gap n.no_space h refl) in
      let token = only_token after t.kind n.text n.after (no_comment after n.no_space) (omega (arith, length-append n.text n.after, some)) n.longest no_fault in
      next_behind n.gap after n.whole len ∙ rw here (ap (placed (c.at + length n.gap)) token
      ∙ ap (λ m. placed m (Ok (t.kind, length n.text))) (sym n.start) ∙ ap (λ e. Ok (Some (record { kind = t.kind; start = t.start; end = e }))) (sym n.end))

-- past the end there is no token
none_past : (text : List ℕ) (at : ℕ) → length text < at → next_of (record { text = text; at = at }) ≡ Ok None
none_past text at past =
    let nothing : drop at text ≡ [] = drop_all at text (omega arith) in
    rw nothing (rw (le-ltb (at + 0) (length text) (omega arith)) refl)

-- a token of a text stands within it
pub token_within : (text : List ℕ) (t : Token) → IsTokenOf text t → (t.start < t.end) × (t.end ≤ length text)
token_within text t (at, is) = ⊎_elim past here (either (nat_lt (length text) at))
  where
    past : nat_lt (length text) at ≡ true → (t.start < t.end) × (t.end ≤ length text)
    past p = let both = sym (none_past text at (ltb-true (length text) at p)) ∙ is in cc

    here : nat_lt (length text) at ≡ false → (t.start < t.end) × (t.end ≤ length text)
    here p =
        let c : Cursor = record { text = text; at = at } in
        let within = ltb-false (length text) at p in
        let n : IsNextToken c t = subst (IsNext c) is (next_is c within) in
        let some = form_some t.kind n.text n.after n.longest.of_form in
        (omega (arith, some, n.end), omega (arith, n.start, n.end, rest_len c within n.gap (n.text ++ n.after) n.whole, length-append n.text n.after))

-- and has bytes
pub bytes_some : (text : List ℕ) (t : Token) → IsTokenOf text t → 1 ≤ length (bytes_of text t)
bytes_some text t is =
    let within = token_within text t is in
    omega (arith, within, length-take (t.end - t.start) (drop t.start text), length-drop t.start text)
