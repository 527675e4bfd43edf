-- What the reader needs of the lexer's tokens.
use Rattle.std.proofs.Common.{◌≡◌, ℕ, ◌+◌, ◌≤◌, ◌<◌, ◌^◌, true, false, nat_abs, nat_lt, pos, ℤ, to_z, of_z, List, [], ◌∷◌, ◌++◌, length, drop, Some, None, Ok, refl, sym, ap, ◌∙◌, subst, ⊎_elim, arith, ltb-true, ltb-false, le-ltb, lt-ltb, length-drop}
use Rattle.std.specs.Int.{w128}
use Rattle.std.proofs.lemmas.List.{drop_all}
use Rattle.std.proofs.lemmas.Int.{to_z_pos}
use Rattle.prolog_tokens.specs.Bytes.{is_graphic, begins_with}
use Rattle.prolog_tokens.specs.Tokens.{mark_at}
use Rattle.prolog_tokens.specs.Places.{fault_at, moved}
use Rattle.prolog_tokens.specs.Cursor.{Cursor, next_of}
use Rattle.prolog_tokens.specs.Decoding.{IsTokenOf}
use Rattle.prolog_tokens.specs.Forms.{wide, IsOfForm}
use Rattle.prolog_tokens.specs.Next.{IsNext, IsNextToken, HasFault, in_token}
use Rattle.prolog_tokens.specs.declared.token.TokenKind.{TokenKind}
use Rattle.prolog_tokens.specs.declared.token.TokenKind.TheVariants as kind
use Rattle.prolog_tokens.specs.declared.token.Token.{Token}
use Rattle.prolog_tokens.specs.declared.fault.LexKind.TheVariants.{WideNumber}
use Rattle.prolog_tokens.proofs.CharacterLemmas.{either}
use Rattle.prolog_tokens.proofs.NextLemmas.{next_is, next_fault}

abbrev pub cursor : List ℕ → ℕ → Cursor
cursor text at = record { text = text; at = at }

-- past the end there is no token
pub none_past : (text : List ℕ) (at : ℕ) → length text ≤ at → next_of (cursor text at) ≡ Ok None
none_past text at past =
    let nothing : drop at text ≡ [] = drop_all at text (omega arith) in
    rw nothing (rw (le-ltb (at + 0) (length text) (omega arith)) refl)

token_before_end : (text : List ℕ) (t : Token) (at : ℕ) → next_of (cursor text at) ≡ Ok (Some t) → at ≤ length text
token_before_end text t at is = ⊎_elim past here (either (nat_lt (length text) at))
  where
    past : nat_lt (length text) at ≡ true → at ≤ length text
    past p = let both = sym (none_past text at (omega (arith, ltb-true (length text) at p))) ∙ is in cc

    here : nat_lt (length text) at ≡ false → at ≤ length text
    here p = ltb-false (length text) at p

-- a token is the next by the forms
pub next_token : (text : List ℕ) (t : Token) (at : ℕ) → next_of (cursor text at) ≡ Ok (Some t) → IsNextToken (cursor text at) t
next_token text t at is = subst (IsNext (cursor text at)) is (next_is (cursor text at) (token_before_end text t at is))

-- an integer is from 0 to 2^127 - 1
pub record IsSmall (i : ℤ) : Type 0 where
  pub number : ℕ
  pub is : i ≡ pos number
  pub small : number < 2 ^ 127

int_is : (text : List ℕ) (t : Token) (at : ℕ) (i : ℤ) → next_of (cursor text at) ≡ Ok (Some t) → t.kind ≡ kind.Int i → IsSmall i
int_is text t at i is k = ⊎_elim small wide_number (either (nat_lt form.0 (2 ^ 127)))
  where
    next : IsNextToken (cursor text at) t
    next = next_token text t at is

    form : IsOfForm (kind.Int i) next.text next.after
    form = subst (λ (x : TokenKind). IsOfForm x next.text next.after) k next.longest.of_form

    small : nat_lt form.0 (2 ^ 127) ≡ true → IsSmall i
    small h = record { number = form.0; is = form.1; small = ltb-true form.0 (2 ^ 127) h }

    wide_number : nat_lt form.0 (2 ^ 127) ≡ false → IsSmall i
    wide_number h =
        let fault : HasFault (cursor text at) (moved (at + length next.gap) (fault_at WideNumber 0)) =
        in_token next.gap (next.text ++ next.after) (fault_at WideNumber 0) next.whole next.is_gap next.no_space (wide form.0 next.text next.after form.2 (ltb-false form.0 (2 ^ 127) h) refl refl) refl in
        let both = sym (next_fault (cursor text at) (token_before_end text t at is) _ fault) ∙ is in
        cc

-- also where it is read from the code's bits
bits_small : (n : ℕ) → n < 2 ^ 127 → nat_abs (to_z w128 (of_z w128 (pos n))) < 2 ^ 127
bits_small n h = rw (to_z_pos w128 n h) h

pub int_small : (text : List ℕ) (t : Token) (i : ℤ) → IsTokenOf text t → t.kind ≡ kind.Int i → nat_abs (to_z w128 (of_z w128 i)) < 2 ^ 127
int_small text t i given k =
    let s = int_is text t given.0 i given.1 k in
    let P : ℤ → Type 0 = λ j. nat_abs (to_z w128 (of_z w128 j)) < 2 ^ 127 in
    subst P (sym s.is) (bits_small s.number s.small)

-- where a parenthesis stands, it is the next token
pub paren_there : (text rest : List ℕ) (at : ℕ) → drop at text ≡ 40 ∷ rest → next_of (cursor text at) ≡ Ok (Some (record { kind = kind.Paren; start = at; end = at + 1 }))
unfolding mark_at is_graphic
paren_there text rest at here =
    let within : at + 0 < length text = omega (arith, length-drop at text, ap (λ (xs : List ℕ). length xs) here) in
    let start : at + 0 ≡ at = omega arith in
    rw here (rw (lt-ltb (at + 0) (length text) within) (rw start (rw here refl)))

-- a gap of no bytes stands before what it stands before
no_gap : (gap : List ℕ) (at start : ℕ) → start ≡ at → start ≡ at + length gap → gap ≡ []
no_gap [] at start h k = refl
no_gap (b ∷ bs) at start h k = absurd (omega (arith, h, k))

-- and a parenthesis that is the next token, directly there, is the byte there
pub paren_is : (text : List ℕ) (t : Token) (at : ℕ) → next_of (cursor text at) ≡ Ok (Some t) → t.kind ≡ kind.Paren → t.start ≡ at → begins_with 40 (drop at text) ≡ true
paren_is text t at is k start =
    let next = next_token text t at is in
    let form : next.text ≡ 40 ∷ [] = subst (λ (x : TokenKind). IsOfForm x next.text next.after) k next.longest.of_form in
    let gap = no_gap next.gap at t.start start next.start in
    rw next.whole (rw (gap, form) refl)
