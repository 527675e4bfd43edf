-- The computed token is the longest match, and its faults are those of the table.
use Rattle.std.proofs.Common.{◌≡◌, ℕ, ◌<◌, false, List, [], ◌∷◌, length, pos, Ok, Err, ⊎_elim, refl, sym, ◌∙◌, ap, subst, arith}
use Rattle.std.proofs.lemmas.Bool.{eq-eqb}
use Rattle.prolog_tokens.specs.Bytes.{begins_with, begins_comment}
use Rattle.prolog_tokens.specs.Places.{fault_at}
use Rattle.prolog_tokens.specs.Tokens.{Answer, token_at}
use Rattle.prolog_tokens.specs.Forms.{decimal, IsLongest, FitsNone, IsQuote, IsFault, no_token, byte_in_item, byte_after_zero, open_item, escape_in_item, escape_after_zero, fraction, wide}
use Rattle.prolog_tokens.specs.declared.token.TokenKind.{TokenKind}
use Rattle.prolog_tokens.specs.declared.token.TokenKind.TheVariants as kind
use Rattle.prolog_tokens.specs.declared.fault.LexKind.TheVariants.{BadByte}
use Rattle.prolog_tokens.specs.declared.fault.LexFault.{LexFault}
use Rattle.prolog_tokens.proofs.ReadLemmas.{IsUnread, IsRead, token_is}
use Rattle.prolog_tokens.proofs.FitLemmas.{IsAtLeast, form_fits}
use Rattle.prolog_tokens.proofs.FaultLemmas.{fault_found}

-- a quote that does not begin the bytes
quote_apart : (quote : ℕ) (bytes rest : List ℕ) → IsQuote quote → bytes ≡ quote ∷ rest → begins_with 39 bytes ≡ false → begins_with 34 bytes ≡ false → ⊥
quote_apart quote bytes rest q whole single double = ⊎_elim (λ e. at_single e) (λ e. at_double e) q
  where
    at_single : quote ≡ 39 → ⊥
    at_single e = let both = sym single ∙ ap (begins_with 39) whole ∙ eq-eqb quote 39 e in cc

    at_double : quote ≡ 34 → ⊥
    at_double e = let both = sym double ∙ ap (begins_with 34) whole ∙ eq-eqb quote 34 e in cc

-- where no form fits and no item begins, the first byte is bad
only_unread : (bytes : List ℕ) (fault : LexFault) → FitsNone bytes → begins_with 39 bytes ≡ false → begins_with 34 bytes ≡ false → IsFault bytes fault → fault ≡ fault_at BadByte 0
only_unread bytes fault none single double (no_token some n s d is) = is
only_unread bytes fault none single double (byte_in_item quote body after o h is) = absurd (quote_apart quote bytes _ o.is_quote o.whole single double)
only_unread bytes fault none single double (byte_after_zero after whole h is) = absurd (none (kind.Int (pos 0)) (48 ∷ []) (39 ∷ after) whole (0, refl, decimal (refl, tt) refl))
only_unread bytes fault none single double (open_item quote body after o h is) = absurd (quote_apart quote bytes _ o.is_quote o.whole single double)
only_unread bytes fault none single double (escape_in_item quote body after o n apart is) = absurd (quote_apart quote bytes _ o.is_quote o.whole single double)
only_unread bytes fault none single double (escape_after_zero after whole n is) = absurd (none (kind.Int (pos 0)) (48 ∷ []) (39 ∷ 92 ∷ after) whole (0, refl, decimal (refl, tt) refl))
only_unread bytes fault none single double (fraction digits after d are narrow digit whole is) = absurd (none (kind.Int (pos _)) digits (46 ∷ d ∷ after) whole (_, refl, decimal are refl))
only_unread bytes fault none single double (wide n text after spells large whole is) = absurd (none (kind.Int (pos n)) text after whole (n, refl, spells))

unread_by : (bytes : List ℕ) (r : Answer) → IsRead bytes r → FitsNone bytes → begins_with 39 bytes ≡ false → begins_with 34 bytes ≡ false → r ≡ Err (fault_at BadByte 0)
unread_by bytes (Ok t) h none single double = absurd (none t.0 h.text h.after h.whole h.of_form)
unread_by bytes (Err fault) h none single double =
    ap (λ (f : LexFault). Err f) (⊎_elim (λ k. only_unread bytes fault none single double k) (λ k. k.is) h)

unread_at : (bytes : List ℕ) → begins_comment bytes ≡ false → 0 < length bytes → FitsNone bytes → begins_with 39 bytes ≡ false → begins_with 34 bytes ≡ false → token_at bytes ≡ Err (fault_at BadByte 0)
unread_at [] apart some = absurd (omega arith)
unread_at (b ∷ bs) apart some = unread_by (b ∷ bs) (token_at (b ∷ bs)) (token_is b bs apart)

-- the fault of the table is the one that is found
pub fault_is_found : (bytes : List ℕ) (fault : LexFault) → begins_comment bytes ≡ false → IsFault bytes fault → token_at bytes ≡ Err fault
fault_is_found bytes fault apart h = fault_found bytes fault (unread_at bytes apart) h

fits_none : (bytes : List ℕ) → token_at bytes ≡ Err (fault_at BadByte 0) → FitsNone bytes
fits_none bytes is of text after whole form =
    let long = subst (IsAtLeast of (length text)) (ap token_at (sym whole) ∙ is) (form_fits of text after form) in
    long refl

-- the answer is the longest text of a form, or a fault of the table
abbrev pub IsMatch : List ℕ → Answer → Type 0
IsMatch bytes (Ok t) = (text : List ℕ) × (after : List ℕ) × IsLongest bytes t.0 text after × (length text ≡ t.1)
IsMatch bytes (Err fault) = IsFault bytes fault

match_by : (bytes : List ℕ) (r : Answer) → 0 < length bytes → token_at bytes ≡ r → IsRead bytes r → IsMatch bytes r
match_by bytes (Ok t) some is h = (
  h.text,
  h.after,
  record {
    whole = h.whole;
    of_form = h.of_form;
    longest = λ other text' after' whole form.
        let long = subst (IsAtLeast other (length text')) (ap token_at (sym whole) ∙ is) (form_fits other text' after' form) in
        omega (arith, long.0, h.count);
  },
  h.count,
)
match_by bytes (Err fault) some is h = ⊎_elim (λ k. k) (λ k. unread k) h
  where
    unread : IsUnread bytes fault → IsFault bytes fault
    unread k = no_token some (fits_none bytes (is ∙ ap (λ (f : LexFault). Err f) k.is)) k.single k.double k.is

pub is_match : (bytes : List ℕ) → begins_comment bytes ≡ false → 0 < length bytes → IsMatch bytes (token_at bytes)
is_match [] apart some = absurd (omega arith)
is_match (b ∷ bs) apart some = match_by (b ∷ bs) (token_at (b ∷ bs)) some refl (token_is b bs apart)

-- where there is no fault, a longest text of a form is the token
pub only_token : (bytes : List ℕ) (of : TokenKind) (text after : List ℕ) → begins_comment bytes ≡ false → 0 < length bytes → IsLongest bytes of text after → ((fault : LexFault) → IsFault bytes fault → ⊥)
    → token_at bytes ≡ Ok (of, length text)
only_token bytes of text after apart some longest sound = by_match (token_at bytes) refl (is_match bytes apart some)
  where
    by_match : (r : Answer) → token_at bytes ≡ r → IsMatch bytes r → token_at bytes ≡ Ok (of, length text)
    by_match (Err fault) is h = absurd (sound fault h)
    by_match (Ok t) is (text', after', other, count) =
        let same : length text ≡ t.1 = omega (arith, count, other.longest of text after longest.whole longest.of_form, longest.longest t.0 text' after' other.whole other.of_form) in
        let kind_is = (subst (IsAtLeast of (length text)) (ap token_at (sym longest.whole) ∙ is) (form_fits of text after longest.of_form)).1 same in
        is ∙ ap (λ k. Ok (k, t.1)) kind_is ∙ ap (λ n. Ok (of, n)) (sym same)
