-- A text of a form at the front is no longer than the computed token, which is then no bad first byte; and it is of the
-- same kind where it is as long.
use Rattle.std.proofs.Common.{◌≡◌, ◌≢◌, ℕ, ◌+◌, ◌<◌, ◌≤◌, ◌^◌, ◌==◌, ◌&&◌, nat_lt, Bool, true, false, List, [], ◌∷◌, ◌++◌, length, take, drop, pos, Ok, Err, inl, inr, ⊎_elim, refl, sym, ◌∙◌, ap, subst, append_assoc, length-append, arith, if◌then◌else◌}
use Rattle.std.specs.Char.{is_digit as is_digit_in}
use Rattle.std.proofs.lemmas.Bool.{eqb-true, ne_eqb}
use Rattle.std.proofs.lemmas.List.{take_at}
use Rattle.prolog_tokens.specs.Bytes.{is_small, is_digit, is_word, is_graphic, begins_with, ends_clause}
use Rattle.prolog_tokens.specs.Places.{fault_at}
use Rattle.prolog_tokens.specs.Numbers.{digits_len, number_of}
use Rattle.prolog_tokens.specs.Pieces.{piece_at}
use Rattle.prolog_tokens.specs.Items.{item_len}
use Rattle.prolog_tokens.specs.Tokens.{Answer, integer, zero_alone, is_fraction, decimal_at, based_at, code_of, integer_at, item_of, mark_at, token_at}
use Rattle.prolog_tokens.specs.Forms.{Each, IsRun, IsBase, hexadecimal_base, octal_base, binary_base, SpellsInteger, decimal, based, code, IsOfForm, IsGraphicName, IsItem, IsQuote}
use Rattle.prolog_tokens.specs.declared.piece.Piece.{Piece}
use Rattle.prolog_tokens.specs.declared.piece.Piece.TheVariants.{Character, Dropped, Closing, Fault}
use Rattle.prolog_tokens.specs.declared.token.TokenKind.{TokenKind}
use Rattle.prolog_tokens.specs.declared.token.TokenKind.TheVariants as kind
use Rattle.prolog_tokens.specs.declared.fault.LexKind.{LexKind}
use Rattle.prolog_tokens.specs.declared.fault.LexKind.TheVariants.{BadByte, Unclosed, BadEscape, Float, WideNumber}
use Rattle.prolog_tokens.specs.declared.fault.LexFault.{LexFault}
use Rattle.prolog_tokens.proofs.CharacterLemmas.{either, and_true}
use Rattle.prolog_tokens.proofs.NumberLemmas.{decimal_digit}
use Rattle.prolog_tokens.proofs.RunLemmas.{Each-le, Each-run, length-run}
use Rattle.prolog_tokens.proofs.ClassLemmas.{variable_not_small, digit_not_small, digit_not_variable, graphic_not_small, graphic_not_variable, graphic_not_digit, graphic_not_quote, graphic_not_double, graphic_ends_none}
use Rattle.prolog_tokens.proofs.SpelledLemmas.{spelled_piece}
use Rattle.prolog_tokens.proofs.BodyLemmas.{item_closed}

-- the answer is at least so long, and of that kind where it is just so long; or it is a fault that is not a bad first
-- byte
abbrev pub IsAtLeast : TokenKind → ℕ → Answer → Type 0
IsAtLeast of n (Ok t) = (n ≤ t.1) × (n ≡ t.1 → t.0 ≡ of)
IsAtLeast of n (Err fault) = fault ≢ fault_at BadByte 0

-- faults of other kinds or places
other_kind : (k : LexKind) (at : ℕ) → k ≢ BadByte → fault_at k at ≢ fault_at BadByte 0
other_kind k at apart e = apart (ap (λ (f : LexFault). f.kind) e)

other_place : (k : LexKind) (at : ℕ) → at ≢ 0 → fault_at k at ≢ fault_at BadByte 0
other_place k at apart e = apart (ap (λ (f : LexFault). f.at) e)

integer_fits : (of : TokenKind) (n number len : ℕ) → n ≤ len → (n ≡ len → kind.Int (pos number) ≡ of) → IsAtLeast of n (integer number len)
integer_fits of n number len h k = by_test (nat_lt number (2 ^ 127))
  where
    by_test : (t : Bool) → IsAtLeast of n (if t then Ok (kind.Int (pos number), len) else Err (fault_at WideNumber 0))
    by_test true = (h, k)
    by_test false = other_kind WideNumber 0 (λ e. cc)

-- the integer of the digits at the front
abbrev int_of : ℕ → List ℕ → TokenKind
int_of base digits = kind.Int (pos (number_of base digits))

decimal_fits : (of : TokenKind) (n : ℕ) (bs : List ℕ) → n ≤ digits_len 10 bs → (n ≡ digits_len 10 bs → int_of 10 (take (digits_len 10 bs) bs) ≡ of) → IsAtLeast of n (decimal_at bs)
unfolding decimal_at
decimal_fits of n bs h k = by_test (nat_lt (number_of 10 (take (digits_len 10 bs) bs)) (2 ^ 127) && is_fraction (drop (digits_len 10 bs) bs))
  where
    by_test : (t : Bool) → IsAtLeast of n (if t then Err (fault_at Float 0) else integer (number_of 10 (take (digits_len 10 bs) bs)) (digits_len 10 bs))
    by_test true = other_kind Float 0 (λ e. cc)
    by_test false = integer_fits of n (number_of 10 (take (digits_len 10 bs) bs)) (digits_len 10 bs) h k

abbrev zero_kind : TokenKind
zero_kind = kind.Int (pos 0)

based_some : (base : ℕ) (bs : List ℕ) → IsAtLeast zero_kind 1 (based_at base bs)
unfolding based_at
based_some base bs = by_test (digits_len base bs == 0)
  where
    by_test : (t : Bool) → IsAtLeast zero_kind 1 (if t then zero_alone else integer (number_of base (take (digits_len base bs) bs)) (2 + digits_len base bs))
    by_test true = (omega arith, λ e. refl)
    by_test false = integer_fits zero_kind 1 (number_of base (take (digits_len base bs) bs)) (2 + digits_len base bs) (omega arith) (λ e. absurd (omega (arith, e)))

based_fits : (of : TokenKind) (base n : ℕ) (bs : List ℕ) → 0 < n → n ≤ digits_len base bs → (n ≡ digits_len base bs → int_of base (take (digits_len base bs) bs) ≡ of) → IsAtLeast of (2 + n) (based_at base bs)
unfolding based_at
based_fits of base n bs some h k =
    rw (ne_eqb (digits_len base bs) 0 (λ e. omega (arith, e)))
    (integer_fits of (2 + n) (number_of base (take (digits_len base bs) bs)) (2 + digits_len base bs) (omega arith) (λ e. k (omega (arith, e))))

code_some : (p : Piece) → IsAtLeast zero_kind 1 (code_of p)
code_some (Character c n) = (omega arith, λ e. absurd (omega (arith, e)))
code_some Dropped = other_kind BadEscape 0 (λ e. cc)
code_some Closing = (omega arith, λ e. refl)
code_some (Fault Unclosed) = (omega arith, λ e. refl)
code_some (Fault BadByte) = other_place BadByte 2 (λ e. omega (arith, e))
code_some (Fault BadEscape) = other_kind BadEscape 0 (λ e. cc)
code_some (Fault Float) = other_kind Float 0 (λ e. cc)
code_some (Fault WideNumber) = other_kind WideNumber 0 (λ e. cc)

if_fits : (of : TokenKind) (n : ℕ) (t : Bool) (a b : Answer) → (t ≡ true → IsAtLeast of n a) → IsAtLeast of n b → IsAtLeast of n (if t then a else b)
if_fits of n true a b h k = h refl
if_fits of n false a b h k = k

-- a digit alone
zero_fits : (b c : ℕ) (bs : List ℕ) (r : Answer) → ((b == 48) && begins_with c bs) ≡ true → IsAtLeast zero_kind 1 r → IsAtLeast (int_of 10 (b ∷ [])) 1 r
zero_fits b c bs r t h =
    let P : ℕ → Type 0 = λ x. IsAtLeast (int_of 10 (x ∷ [])) 1 r in
    subst P (sym (eqb-true b 48 (and_true (b == 48) (begins_with c bs) t).0)) h

digit_fits : (b : ℕ) (bs : List ℕ) → is_digit_in b 10 ≡ true → IsAtLeast (int_of 10 (b ∷ [])) 1 (integer_at (b ∷ bs))
unfolding integer_at
digit_fits b bs d =
    if_fits _ 1 ((b == 48) && begins_with 120 bs) _ _ (λ t. zero_fits b 120 bs _ t (based_some 16 (drop 1 bs)))
    (if_fits _ 1 ((b == 48) && begins_with 111 bs) _ _ (λ t. zero_fits b 111 bs _ t (based_some 8 (drop 1 bs)))
    (if_fits _ 1 ((b == 48) && begins_with 98 bs) _ _ (λ t. zero_fits b 98 bs _ t (based_some 2 (drop 1 bs)))
    (if_fits _ 1 ((b == 48) && begins_with 39 bs) _ _ (λ t. zero_fits b 39 bs _ t (code_some (piece_at 39 (drop 1 bs))))
    (decimal_fits _ 1 (b ∷ bs) (rw d (omega arith)) (λ e. ap (λ n. int_of 10 (take n (b ∷ bs))) (sym e))))))

-- two digits
pub and_false : (a : Bool) → (a && false) ≡ false
and_false true = refl
and_false false = refl

digit_is_none : (d c : ℕ) → is_digit d ≡ true → is_digit c ≡ false → (d == c) ≡ false
digit_is_none d c h k = ne_eqb d c (λ e. let both = sym h ∙ ap is_digit e ∙ k in cc)

pub integer_at_digits : (b d : ℕ) (bs : List ℕ) → is_digit d ≡ true → integer_at (b ∷ d ∷ bs) ≡ decimal_at (b ∷ d ∷ bs)
unfolding integer_at
integer_at_digits b d bs h =
    rw (digit_is_none d 120 h refl, digit_is_none d 111 h refl, digit_is_none d 98 h refl, digit_is_none d 39 h refl) (rw (and_false (b == 48)) refl)

-- digits that are all digits at the front
all_digits : (base : ℕ) (ds after : List ℕ) → length ds ≡ digits_len base (ds ++ after) → int_of base (take (digits_len base (ds ++ after)) (ds ++ after)) ≡ int_of base ds
all_digits base ds after e = ap (int_of base) (ap (λ n. take n (ds ++ after)) (sym e) ∙ take_at ds after (length ds) refl)

digits_fit : (b : ℕ) (ds after : List ℕ) → is_digit_in b 10 ≡ true → Each (λ x. is_digit_in x 10) ds → IsAtLeast (int_of 10 (b ∷ ds)) (length (b ∷ ds)) (integer_at (b ∷ (ds ++ after)))
digits_fit b [] after h k = digit_fits b after h
digits_fit b (d ∷ ds) after h k =
    rw (integer_at_digits b d (ds ++ after) (sym (decimal_digit d) ∙ k.0))
    (decimal_fits (int_of 10 (b ∷ d ∷ ds)) (length (b ∷ d ∷ ds)) (b ∷ d ∷ (ds ++ after)) (Each-le (λ x. is_digit_in x 10) (b ∷ d ∷ ds) after (h, k)) (all_digits 10 (b ∷ d ∷ ds) after))

-- the answer where a digit begins
pub token_at_digit : (b : ℕ) (bs : List ℕ) → is_digit b ≡ true → token_at (b ∷ bs) ≡ integer_at (b ∷ bs)
token_at_digit b bs h = let v = digit_not_variable b h in rw (digit_not_small b h) (rw v (rw h refl))

-- the letter of a base
pub integer_at_based : (base letter : ℕ) (bs : List ℕ) → IsBase base letter → integer_at (48 ∷ letter ∷ bs) ≡ based_at base bs
unfolding integer_at
integer_at_based base letter bs hexadecimal_base = refl
integer_at_based base letter bs octal_base = refl
integer_at_based base letter bs binary_base = refl

pub integer_at_code : (bs : List ℕ) → integer_at (48 ∷ 39 ∷ bs) ≡ code_of (piece_at 39 bs)
unfolding integer_at
integer_at_code bs = refl

integer_form : (n : ℕ) (text after : List ℕ) → SpellsInteger n text → IsAtLeast (kind.Int (pos n)) (length text) (token_at (text ++ after))
integer_form n [] after (decimal are is) = absurd are
integer_form n (b ∷ ds) after (decimal are is) =
    let P : ℕ → Type 0 = λ m. IsAtLeast (kind.Int (pos m)) (length (b ∷ ds)) (token_at (b ∷ (ds ++ after))) in
    subst P (sym is) (rw (token_at_digit b (ds ++ after) (sym (decimal_digit b) ∙ are.0)) (digits_fit b ds after are.0 are.1))
integer_form n text after (based base letter digits base_is are is whole) =
    let p : ℕ → Bool = λ x. is_digit_in x base in
    let P : ℕ → Type 0 = λ m. IsAtLeast (kind.Int (pos n)) m (based_at base (digits ++ after)) in
    rw whole (rw (token_at_digit 48 (letter ∷ (digits ++ after)) refl) (rw (integer_at_based base letter (digits ++ after) base_is)
    (subst P (omega arith) (based_fits (kind.Int (pos n)) base (length digits) (digits ++ after) (length-run p p digits are) (Each-le p digits after (Each-run p digits are))
    (λ e. all_digits base digits after e ∙ ap (λ m. kind.Int (pos m)) (sym is))))))
integer_form n text after (code part spells whole) =
    rw whole (rw (token_at_digit 48 (39 ∷ (part ++ after)) refl) (rw (integer_at_code (part ++ after)) (rw (spelled_piece 39 n part after (inl refl) spells) (omega arith, λ e. refl))))

item_form : (quote : ℕ) (of : TokenKind) (text after : List ℕ) → IsQuote quote → IsItem quote text after → ((bs : List ℕ) → token_at (quote ∷ bs) ≡ item_of of (item_len quote 0 bs)) → IsAtLeast of (length text) (token_at (text ++ after))
item_form quote of text after q item is =
    rw item.whole (rw (is ((item.body ++ quote ∷ []) ++ after)) (rw (append_assoc item.body (quote ∷ []) after) (rw (item_closed quote after q item.is_body item.apart)
    (omega (arith, length-append item.body (quote ∷ [])), λ e. refl))))

pub token_at_single : (bs : List ℕ) → token_at (39 ∷ bs) ≡ item_of kind.Quoted (item_len 39 0 bs)
token_at_single bs = refl

pub token_at_double : (bs : List ℕ) → token_at (34 ∷ bs) ≡ item_of kind.Text (item_len 34 0 bs)
token_at_double bs = refl

graphic_form : (text after : List ℕ) → IsGraphicName text after → IsAtLeast kind.Name (length text) (token_at (text ++ after))
graphic_form [] after h = absurd h.run
graphic_form (b ∷ bs) after h =
    let g = h.run.0 in
    let v = graphic_not_variable b g in
    rw (graphic_not_small b g) (rw v (rw (graphic_not_digit b g, graphic_not_quote b g, graphic_not_double b g) (rw (no_end bs refl) (rw g (omega (arith, Each-le is_graphic bs after h.run.1), λ e. refl)))))
  where
    no_end : (xs : List ℕ) → bs ≡ xs → ((b == 46) && ends_clause (bs ++ after)) ≡ false
    no_end [] e = ⊎_elim (λ t. ⊎_elim (λ u. absurd (h.no_end (ap (λ (xs : List ℕ). b ∷ xs) e ∙ ap (λ x. x ∷ []) (eqb-true b 46 t)) u)) (λ u. rw e (rw t u)) (either (ends_clause after))) (λ t. rw t refl) (either (b == 46))
    no_end (x ∷ xs) e = rw e (rw (graphic_ends_none x (first x xs e)) (and_false (b == 46)))
      where
        first : (x : ℕ) (xs : List ℕ) → bs ≡ x ∷ xs → is_graphic x ≡ true
        first x xs e = let P : List ℕ → Type 0 = λ ys. Each is_graphic ys in (subst P e h.run.1).0

word_form : (text after : List ℕ) → IsRun is_small is_word text → IsAtLeast kind.Name (length text) (token_at (text ++ after))
word_form [] after h = absurd h
word_form (b ∷ bs) after h = rw (h.0) (omega (arith, Each-le is_word bs after h.1), λ e. refl)

pub form_fits : (of : TokenKind) (text after : List ℕ) → IsOfForm of text after → IsAtLeast of (length text) (token_at (text ++ after))
unfolding mark_at is_graphic
form_fits kind.Name text after (inl h) = word_form text after h
form_fits kind.Name text after (inr (inl h)) = graphic_form text after h
form_fits kind.Name text after (inr (inr (inl h))) = rw h (omega arith, λ e. refl)
form_fits kind.Name text after (inr (inr (inr h))) = rw h (omega arith, λ e. refl)
form_fits kind.Quoted text after h = item_form 39 kind.Quoted text after (inl refl) h token_at_single
form_fits kind.Text text after h = item_form 34 kind.Text text after (inr refl) h token_at_double
form_fits kind.Var [] after h = absurd h
form_fits kind.Var (b ∷ bs) after h = rw (variable_not_small b h.0) (rw (h.0) (omega (arith, Each-le is_word bs after h.1), λ e. refl))
form_fits (kind.Int z) text after h =
    let P : TokenKind → Type 0 = λ k. IsAtLeast k (length text) (token_at (text ++ after)) in
    subst P (ap (λ x. kind.Int x) (sym h.1)) (integer_form h.0 text after h.2)
form_fits kind.Paren text after h = rw h (omega arith, λ e. refl)
form_fits kind.ParenEnd text after h = rw h (omega arith, λ e. refl)
form_fits kind.List text after h = rw h (omega arith, λ e. refl)
form_fits kind.ListEnd text after h = rw h (omega arith, λ e. refl)
form_fits kind.Curly text after h = rw h (omega arith, λ e. refl)
form_fits kind.CurlyEnd text after h = rw h (omega arith, λ e. refl)
form_fits kind.Comma text after h = rw h (omega arith, λ e. refl)
form_fits kind.Bar text after h = rw h (omega arith, λ e. refl)
form_fits kind.End text after h = rw h.0 (rw h.1 (omega arith, λ e. refl))
