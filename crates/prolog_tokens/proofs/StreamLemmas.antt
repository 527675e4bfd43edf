-- One token of a stream.
use Rattle.std.proofs.Common.{◌≡◌, List, [], ◌∷◌, Option, Some, None, Result, Ok, Err, refl, sym, ◌∙◌, subst, ap}
use Rattle.prolog_tokens.specs.Cursor.{Cursor, next_of}
use Rattle.prolog_tokens.specs.Stream.{Lexes, ends, fails, goes_on}
use Rattle.prolog_tokens.specs.declared.token.Token.{Token}
use Rattle.prolog_tokens.specs.declared.fault.LexFault.{LexFault}

abbrev Answer : Type 0
Answer = Result (Option Token) LexFault

some_is : (t u : Token) → ◌≡◌ {A = Answer} (Ok (Some t)) (Ok (Some u)) → t ≡ u
some_is t u h = cc

fault_is : (e f : LexFault) → ◌≡◌ {A = Answer} (Err e) (Err f) → e ≡ f
fault_is e f h = cc

pub record After (c : Cursor) (t : Token) (ts : List Token) (e : Option LexFault) : Type 0 where
  pub more : List Token
  pub first : ts ≡ t ∷ more
  pub later : Lexes (record { text = c.text; at = t.end }) more e

-- where the next token is known, it is the first of the stream
pub after_token : {c : Cursor} {ts : List Token} {e : Option LexFault} → Lexes c ts e → (t : Token) → next_of c ≡ Ok (Some t) → After c t ts e
after_token (ends h) t is = let both = sym h ∙ is in cc
after_token (fails h) t is = let both = sym h ∙ is in cc
after_token (goes_on {c = c} {t = u} {ts = ts} {e = e} h later) t is =
    let same = some_is u t (sym h ∙ is) in
    record { more = ts; first = ap (λ (v : Token). v ∷ ts) same; later = subst (λ (v : Token). Lexes (record { text = c.text; at = v.end }) ts e) same later }

-- where the text ends, so does the stream
pub at_end : {c : Cursor} {ts : List Token} {e : Option LexFault} → Lexes c ts e → next_of c ≡ Ok None → (ts ≡ []) × (e ≡ None)
at_end (ends h) is = (refl, refl)
at_end (fails h) is = let both = sym h ∙ is in cc
at_end (goes_on h later) is = let both = sym h ∙ is in cc

pub at_fault : {c : Cursor} {ts : List Token} {e : Option LexFault} → Lexes c ts e → (f : LexFault) → next_of c ≡ Err f → (ts ≡ []) × (e ≡ Some f)
at_fault (ends h) f is = let both = sym h ∙ is in cc
at_fault (fails {e = e} h) f is = (refl, ap (λ (x : LexFault). Some x) (fault_is e f (sym h ∙ is)))
at_fault (goes_on h later) f is = let both = sym h ∙ is in cc
