-- Some bytes complete the clause that tokens of a text begin, where some tokens do.
use Rattle.std.proofs.Common.{◌≡◌, ℕ, zero, suc, ◌+◌, ◌-◌, ◌<◌, ◌≤◌, ◌==◌, ◌&&◌, Bool, true, false, List, [], ◌∷◌, ◌++◌, length, take, drop, Option, Some, None, refl, sym, ◌∙◌, ap, subst, append_assoc, length-append, arith}
use Rattle.std.specs.List.{AllByRecursion}
use Rattle.std.proofs.lemmas.Bool.{eq-eqb}
use Rattle.std.proofs.lemmas.List.{take-append-drop, length-take-le, drop_at}
use Rattle.prolog_tokens.specs.Decoding.{bytes_of}
use Rattle.prolog_tokens.specs.Gaps.{IsGap, nothing, layout, more}
use Rattle.prolog_tokens.specs.Stream.{Lexes, goes_on}
use Rattle.prolog_tokens.specs.declared.token.TokenKind.{TokenKind}
use Rattle.prolog_tokens.specs.declared.token.TokenKind.TheVariants as kind
use Rattle.prolog_tokens.specs.declared.token.Token.{Token as TextToken}
use Rattle.prolog_tokens.specs.declared.fault.LexFault.{LexFault}
use Rattle.prolog_tokens.proofs.NextLemmas.{token_within}
use Rattle.prolog_grammar.specs.Token.{Token}
use Rattle.prolog_grammar.specs.Fault.{IsClause, CanGoOn, IsUnexpected, IsDeep, is_name}
use Rattle.prolog_grammar.specs.Machine.{start}
use Rattle.prolog_terms.specs.Symbols.{Seen, none_seen, touches_before, is_minus, joins_before, kind_token, kind_seen, token_of, seen_after, tokens_of, seen_after_all}
use Rattle.prolog_operators.specs.Table.{Table}
use Rattle.prolog_reader.specs.Reading.{before_rest}
use Rattle.prolog_reader.specs.Completion.{end_behind, EndClauses, rules_by, seen_tokens, IsCompleted}
use Rattle.prolog_reader.proofs.Marks.{Mark, paren, underscore, paren_end, bracket, bracket_end, brace_end, dot, Shows, shows_none, shows_paren, shows_underscore, shows_paren_end, shows_bracket, shows_bracket_end, shows_brace_end, shows_dot, SeparatedBy, name_last, Finish, finish, finished}
use Rattle.prolog_reader.proofs.CutLemmas.{Separates, opens, lists, spaces, name_kind}
use Rattle.prolog_reader.proofs.CutStream.{begins_later, Behind, lexes_cut, mark_bytes, mark_token, mark_tokens, marks_lex}

-- ---- the last token

abbrev last_of : Option TextToken → List TextToken → Option TextToken
last_of before [] = before
last_of before (t ∷ ts) = last_of (Some t) ts

abbrev last_name : Bool → List TextToken → Bool
last_name name [] = name
last_name name (t ∷ ts) = last_name (name_kind t.kind) ts

token_name : (names : List (List ℕ)) (seen : Seen) (touching joined : Bool) (k : TokenKind) (bytes : List ℕ) (at : ℕ) → is_name (kind_token names seen touching joined k bytes at) ≡ name_kind k
token_name names seen touching joined kind.Name bytes at = refl
token_name names seen touching joined kind.Quoted bytes at = refl
token_name names seen touching joined kind.Var bytes at = refl
token_name names seen touching true (kind.Int i) bytes at = refl
token_name names seen touching false (kind.Int i) bytes at = refl
token_name names seen touching joined kind.Text bytes at = refl
token_name names seen true joined kind.Paren bytes at = refl
token_name names seen false joined kind.Paren bytes at = refl
token_name names seen touching joined kind.ParenEnd bytes at = refl
token_name names seen touching joined kind.List bytes at = refl
token_name names seen touching joined kind.ListEnd bytes at = refl
token_name names seen touching joined kind.Curly bytes at = refl
token_name names seen touching joined kind.CurlyEnd bytes at = refl
token_name names seen touching joined kind.Comma bytes at = refl
token_name names seen touching joined kind.Bar bytes at = refl
token_name names seen touching joined kind.End bytes at = refl

names_agree : (names : List (List ℕ)) (text : List ℕ) (seen : Seen) (before : Option TextToken) (name : Bool) (ts : List TextToken) → name_last name (tokens_of names text seen before ts) ≡ last_name name ts
names_agree names text seen before name [] = refl
names_agree names text seen before name (t ∷ ts) =
    names_agree names text (seen_after text seen t) (Some t) (is_name (token_of names text seen before t)) ts
    ∙ ap (λ (n : Bool). last_name n ts) (token_name names seen (touches_before before t) (joins_before text before t) t.kind (bytes_of text t) t.start)

behind_last : (name : Bool) (t : TextToken) (ts : List TextToken) → Behind (last_name name (t ∷ ts)) (t ∷ ts)
behind_last name t [] = refl
behind_last name t (u ∷ ts) = behind_last (name_kind t.kind) u ts

behind_begun : (begun : List TextToken) → Behind (last_name false begun) begun
behind_begun [] = tt
behind_begun (t ∷ ts) = behind_last false t ts

behind_all : (earlier begun : List TextToken) → EndClauses earlier → Behind (last_name false begun) (earlier ++ begun)
behind_all [] begun h = behind_begun begun
behind_all (t ∷ []) [] h = sym (ap name_kind h)
behind_all (t ∷ []) (u ∷ begun) h = behind_last false u begun
behind_all (t ∷ u ∷ earlier) begun h = behind_all (u ∷ earlier) begun h

-- ---- the place after the last token

abbrev EndsAt : Option TextToken → ℕ → Type 0
EndsAt None at = Unit {0}
EndsAt (Some t) at = t.end ≡ at

last_ends : (before : Option TextToken) (at : ℕ) (ts : List TextToken) → EndsAt before at → EndsAt (last_of before ts) (end_behind at ts)
last_ends before at [] h = h
last_ends before at (t ∷ ts) h = last_ends (Some t) t.end ts refl

end_append : (at : ℕ) (xs ys : List TextToken) → end_behind at (xs ++ ys) ≡ end_behind (end_behind at xs) ys
end_append at [] ys = refl
end_append at (t ∷ xs) ys = end_append t.end xs ys

-- ---- the tokens that the grammar sees

tokens_append : (names : List (List ℕ)) (text : List ℕ) (seen : Seen) (before : Option TextToken) (xs ys : List TextToken)
    → tokens_of names text seen before (xs ++ ys) ≡ tokens_of names text seen before xs ++ tokens_of names text (seen_after_all text seen xs) (last_of before xs) ys
tokens_append names text seen before [] ys = refl
tokens_append names text seen before (t ∷ xs) ys = ap (λ (us : List Token). token_of names text seen before t ∷ us) (tokens_append names text (seen_after text seen t) (Some t) xs ys)

tokens_length : (names : List (List ℕ)) (text : List ℕ) (seen : Seen) (before : Option TextToken) (ts : List TextToken) → length (tokens_of names text seen before ts) ≡ length ts
tokens_length names text seen before [] = refl
tokens_length names text seen before (t ∷ ts) = ap suc (tokens_length names text (seen_after text seen t) (Some t) ts)

-- the bytes of tokens in two texts that begin alike
abbrev SameBytes : List ℕ → List ℕ → Option TextToken → Type 0
SameBytes text text' None = Unit {0}
SameBytes text text' (Some t) = bytes_of text' t ≡ bytes_of text t

abbrev AllSame : List ℕ → List ℕ → List TextToken → Type 0
AllSame text text' ts = AllByRecursion (λ (t : TextToken). bytes_of text' t ≡ bytes_of text t) ts

tokens_same : (names : List (List ℕ)) (text text' : List ℕ) (seen : Seen) (before : Option TextToken) (ts : List TextToken) → SameBytes text text' before → AllSame text text' ts
    → tokens_of names text' seen before ts ≡ tokens_of names text seen before ts
tokens_same names text text' seen before [] h all = refl
tokens_same names text text' seen before (t ∷ ts) h all =
    (λ i. token_here i ∷ tokens_of names text' (seen_here i) (Some t) ts)
    ∙ ap (λ (us : List Token). token_of names text seen before t ∷ us) (tokens_same names text text' (seen_after text seen t) (Some t) ts all.0 all.1)
  where
    joins : (before : Option TextToken) → SameBytes text text' before → joins_before text' before t ≡ joins_before text before t
    joins None h = refl
    joins (Some b) h = ap (λ (bytes : List ℕ). is_minus b.kind bytes && (b.end == t.start)) h

    token_here : token_of names text' seen before t ≡ token_of names text seen before t
    token_here = λ i. kind_token names seen (touches_before before t) (joins before h i) t.kind (all.0 i) t.start

    seen_here : seen_after text' seen t ≡ seen_after text seen t
    seen_here = ap (λ (bytes : List ℕ). kind_seen seen t.kind bytes) all.0

-- the same place of two texts that begin alike
same_slice : (m n : ℕ) (w x y : List ℕ) → m + n ≤ length w → take n (drop m (w ++ x)) ≡ take n (drop m (w ++ y))
same_slice zero zero w x y l = refl
same_slice zero (suc n) [] x y l = absurd (omega (arith, l))
same_slice zero (suc n) (c ∷ w) x y l = ap (λ (xs : List ℕ). c ∷ xs) (same_slice zero n w x y (omega (arith, l)))
same_slice (suc m) n [] x y l = absurd (omega (arith, l))
same_slice (suc m) n (c ∷ w) x y l = same_slice m n w x y (omega (arith, l))

all_within : (text : List ℕ) (ts later : List TextToken) (fault : Option LexFault) (at : ℕ) → at ≤ length text → Lexes (record { text = text; at = at }) (ts ++ later) fault
    → (at ≤ end_behind at ts) × (end_behind at ts ≤ length text) × AllByRecursion (λ (t : TextToken). (t.start < t.end) × (t.end ≤ end_behind at ts)) ts
all_within text [] later fault at within h = (omega arith, within, tt)
all_within text (t ∷ ts) later fault at within (goes_on e h) =
    let begins = begins_later text at t within e in
    let bounds = token_within text t (at, e) in
    let rest = all_within text ts later fault t.end bounds.1 h in
    (omega (arith, begins, bounds.0, rest.0), rest.1, ((bounds.0, rest.0), rest.2))

all_same : (w x y : List ℕ) (end : ℕ) (ts : List TextToken) → end ≤ length w → AllByRecursion (λ (t : TextToken). (t.start < t.end) × (t.end ≤ end)) ts → AllSame (w ++ x) (w ++ y) ts
all_same w x y end [] l h = tt
all_same w x y end (t ∷ ts) l h =
    let at = h.0 in
    (same_slice t.start (t.end - t.start) w y x (omega (arith, at.0, at.1, l)), all_same w x y end ts l h.1)

all_behind : (P : TextToken → Type 0) (xs ys : List TextToken) → AllByRecursion P (xs ++ ys) → AllByRecursion P ys
all_behind P [] ys h = h
all_behind P (x ∷ xs) ys h = all_behind P xs ys h.1

-- ---- what marks show

-- an opening parenthesis at the front touches the token before it
abbrev Touches : Option TextToken → ℕ → List Mark → Type 0
Touches before at (paren ∷ ms) = touches_before before (mark_token at paren) ≡ true
Touches before at ms = Unit {0}

touches_next : (t : TextToken) (at : ℕ) (ms : List Mark) → t.end ≡ at → Touches (Some t) at ms
touches_next t at [] e = tt
touches_next t at (paren ∷ ms) e = eq-eqb t.end at e
touches_next t at (underscore ∷ ms) e = tt
touches_next t at (paren_end ∷ ms) e = tt
touches_next t at (bracket ∷ ms) e = tt
touches_next t at (bracket_end ∷ ms) e = tt
touches_next t at (brace_end ∷ ms) e = tt
touches_next t at (dot ∷ ms) e = tt

shown : (names : List (List ℕ)) (text : List ℕ) (seen : Seen) (before : Option TextToken) (at : ℕ) (ms : List Mark) → Touches before at ms → Shows ms (tokens_of names text seen before (mark_tokens at ms))
shown names text seen before at [] h = shows_none
shown names text seen before at (paren ∷ ms) h = rw h (shows_paren (shown names text seen (Some (mark_token at paren)) (at + 1) ms (touches_next (mark_token at paren) (at + 1) ms refl)))
shown names text seen before at (underscore ∷ ms) h = shows_underscore (shown names text (seen_after text seen (mark_token at underscore)) (Some (mark_token at underscore)) (at + 1) ms (touches_next (mark_token at underscore) (at + 1) ms refl))
shown names text seen before at (paren_end ∷ ms) h = shows_paren_end (shown names text seen (Some (mark_token at paren_end)) (at + 1) ms (touches_next (mark_token at paren_end) (at + 1) ms refl))
shown names text seen before at (bracket ∷ ms) h = shows_bracket (shown names text seen (Some (mark_token at bracket)) (at + 1) ms (touches_next (mark_token at bracket) (at + 1) ms refl))
shown names text seen before at (bracket_end ∷ ms) h = shows_bracket_end (shown names text seen (Some (mark_token at bracket_end)) (at + 1) ms (touches_next (mark_token at bracket_end) (at + 1) ms refl))
shown names text seen before at (brace_end ∷ ms) h = shows_brace_end (shown names text seen (Some (mark_token at brace_end)) (at + 1) ms (touches_next (mark_token at brace_end) (at + 1) ms refl))
shown names text seen before at (dot ∷ ms) h = shows_dot (shown names text seen (Some (mark_token at dot)) (at + 1) ms (touches_next (mark_token at dot) (at + 1) ms refl))

-- ---- the bytes in front of marks

abbrev lead : Bool → List ℕ
lead true = []
lead false = 32 ∷ []

lead_gap : (name : Bool) (after : List ℕ) → IsGap (lead name) after
lead_gap true after = nothing
lead_gap false after = more (layout 32 refl refl) nothing

-- the first byte separates
led : (name : Bool) (ms : List Mark) → SeparatedBy name ms → (s : ℕ) × (others : List ℕ) × Separates name s × (lead name ++ mark_bytes ms ≡ s ∷ others)
led true [] h = absurd h
led true (paren ∷ ms) h = (40, mark_bytes ms, opens, refl)
led true (underscore ∷ ms) h = absurd h
led true (paren_end ∷ ms) h = absurd h
led true (bracket ∷ ms) h = (91, mark_bytes ms, lists, refl)
led true (bracket_end ∷ ms) h = absurd h
led true (brace_end ∷ ms) h = absurd h
led true (dot ∷ ms) h = absurd h
led false ms h = (32, mark_bytes ms, spaces, refl)

-- after a name the marks touch it, and elsewhere they begin with no parenthesis
lead_touches : (name : Bool) (before : Option TextToken) (e : ℕ) (ms : List Mark) → SeparatedBy name ms → EndsAt before e → (name ≡ true → (t : TextToken) × (before ≡ Some t)) → Touches before (e + length (lead name)) ms
lead_touches name before e [] sep at_end is = tt
lead_touches name None e (paren ∷ ms) sep at_end is = absurd (none name sep is)
  where
    none : (name : Bool) → SeparatedBy name (paren ∷ ms) → (name ≡ true → (t : TextToken) × (None ≡ Some t)) → ⊥
    none true sep is = let r = is refl in cc
    none false sep is = sep
lead_touches true (Some t) e (paren ∷ ms) sep at_end is = eq-eqb t.end (e + 0) (omega (arith, at_end))
lead_touches false (Some t) e (paren ∷ ms) sep at_end is = absurd sep
lead_touches name before e (underscore ∷ ms) sep at_end is = tt
lead_touches name before e (paren_end ∷ ms) sep at_end is = tt
lead_touches name before e (bracket ∷ ms) sep at_end is = tt
lead_touches name before e (bracket_end ∷ ms) sep at_end is = tt
lead_touches name before e (brace_end ∷ ms) sep at_end is = tt
lead_touches name before e (dot ∷ ms) sep at_end is = tt

last_some : (b : TextToken) (ts : List TextToken) → (t : TextToken) × (last_of (Some b) ts ≡ Some t)
last_some b [] = (b, refl)
last_some b (t ∷ ts) = last_some t ts

name_some : (begun : List TextToken) → last_name false begun ≡ true → (t : TextToken) × (last_of None begun ≡ Some t)
name_some [] h = cc
name_some (t ∷ ts) h = last_some t ts

-- ---- the text that goes on otherwise

module _ (names : List (List ℕ)) (table : Table) (text : List ℕ) (earlier begun later : List TextToken) (fault : Option LexFault)
    (h : Lexes (record { text = text; at = 0 }) (earlier ++ (begun ++ later)) fault) (whole : EndClauses earlier) (can : CanGoOn (rules_by names table) (seen_tokens names text begun)) where
  f : Finish (rules_by names table) start false (seen_tokens names text begun)
  f = finish (rules_by names table) (seen_tokens names text begun) can

  name : Bool
  name = last_name false begun

  apart : SeparatedBy name f.marks
  unfolding f name
  apart = subst (λ (n : Bool). SeparatedBy n f.marks) (names_agree names text none_seen None false begun) f.apart

  bytes : List ℕ
  bytes = lead name ++ mark_bytes f.marks

  end : ℕ
  end = end_behind 0 (earlier ++ begun)

  new : List TextToken
  new = mark_tokens (end + length (lead name)) f.marks

  lexed : Lexes (record { text = text; at = 0 }) ((earlier ++ begun) ++ later) fault
  lexed = let P : List TextToken → Type 0 = λ ts. Lexes (record { text = text; at = 0 }) ts fault in subst P (sym (append_assoc earlier begun later)) h

  within : (0 ≤ end) × (end ≤ length text) × AllByRecursion (λ (t : TextToken). (t.start < t.end) × (t.end ≤ end)) (earlier ++ begun)
  unfolding end
  within = all_within text (earlier ++ begun) later fault 0 (omega arith) lexed

  kept : List ℕ
  kept = take end text

  kept_length : length kept ≡ end
  unfolding kept
  kept_length = length-take-le end text within.1

  changed : List ℕ
  changed = kept ++ bytes

  marks_there : Lexes (record { text = changed; at = end }) new None
  unfolding changed bytes new
  marks_there = marks_lex changed (lead name) f.marks end (lead_gap name) f.fine (omega (arith, kept_length, length-append kept (lead name ++ mark_bytes f.marks))) (drop_at kept (lead name ++ mark_bytes f.marks) end kept_length)

  all_there : Lexes (record { text = changed; at = 0 }) ((earlier ++ begun) ++ new) None
  unfolding changed bytes end kept name
  all_there =
      let l = led name f.marks apart in
      lexes_cut name l.0 l.2 l.1 text changed new (earlier ++ begun) later fault 0 kept (drop end text) lexed (sym (take-append-drop end text)) (ap (λ (xs : List ℕ). kept ++ xs) l.3) (omega arith) (omega arith)
      (omega (arith, kept_length)) (behind_all earlier begun whole) marks_there

  same_tokens : seen_tokens names changed begun ≡ seen_tokens names text begun
  unfolding changed kept
  same_tokens =
      let P : TextToken → Type 0 = λ t. (t.start < t.end) × (t.end ≤ end) in
      let all = all_same kept (drop end text) bytes end begun (omega (arith, kept_length)) (all_behind P earlier begun within.2) in
      let Q : List ℕ → Type 0 = λ xs. AllSame xs changed begun in
      tokens_same names text changed none_seen None begun tt (subst Q (take-append-drop end text) all)

  completes : IsClause (rules_by names table) (seen_tokens names changed (begun ++ new))
  unfolding name new end
  completes =
      let seen = seen_after_all changed none_seen begun in
      let before = last_of None begun in
      let at_end : EndsAt before end = subst (EndsAt before) (sym (end_append 0 earlier begun)) (last_ends None (end_behind 0 earlier) begun tt) in
      let touches = lead_touches name before end f.marks apart at_end (name_some begun) in
      let P : List Token → Type 0 = λ us. IsClause (rules_by names table) us in
      subst P (sym (tokens_append names changed none_seen None begun new ∙ ap (λ (us : List Token). us ++ tokens_of names changed seen before new) same_tokens))
      (finished (rules_by names table) (seen_tokens names text begun) (tokens_of names changed seen before new) f (shown names changed seen before (end + length (lead name)) f.marks touches))

  completed_here : IsCompleted names table text earlier begun
  unfolding changed kept end
  completed_here = record {
    bytes = bytes;
    more = new;
    lexes = let P : List TextToken → Type 0 = λ ts. Lexes (record { text = changed; at = 0 }) ts None in subst P (append_assoc earlier begun new) all_there;
    clause = completes;
  }

pub completed : (names : List (List ℕ)) (table : Table) (text : List ℕ) (earlier begun later : List TextToken) (fault : Option LexFault)
    → Lexes (record { text = text; at = 0 }) (earlier ++ (begun ++ later)) fault → EndClauses earlier → CanGoOn (rules_by names table) (seen_tokens names text begun)
    → IsCompleted names table text earlier begun
completed = completed_here

-- ---- before the first unexpected token, and with the first that is too deep

-- lists that are alike and have beginnings of one length begin alike
same_front : (xs ys us vs : List Token) → xs ++ ys ≡ us ++ vs → length xs ≡ length us → xs ≡ us
same_front [] ys [] vs e l = refl
same_front [] ys (u ∷ us) vs e l = absurd (omega (arith, l))
same_front (x ∷ xs) ys [] vs e l = absurd (omega (arith, l))
same_front (x ∷ xs) ys (u ∷ us) vs e l =
    let head : x ≡ u = cc in
    let tail : xs ++ ys ≡ us ++ vs = cc in
    (λ i. head i ∷ same_front xs ys us vs tail (omega (arith, l)) i)

-- the tokens that the first of them show
front_tokens : (names : List (List ℕ)) (text : List ℕ) (ts : List TextToken) (us vs : List Token) → seen_tokens names text ts ≡ us ++ vs → seen_tokens names text (take (length us) ts) ≡ us
front_tokens names text ts us vs e =
    let n = length us in
    let within : n ≤ length ts = omega (arith, tokens_length names text none_seen None ts, ap length e, length-append us vs) in
    let parts = ap (seen_tokens names text) (take-append-drop n ts) in
    same_front (seen_tokens names text (take n ts)) (tokens_of names text (seen_after_all text none_seen (take n ts)) (last_of None (take n ts)) (drop n ts)) us vs
    (sym (tokens_append names text none_seen None (take n ts) (drop n ts)) ∙ parts ∙ e)
    (omega (arith, tokens_length names text none_seen None (take n ts), length-take-le n ts within))

-- tokens that can go on, and stand at the front of others
completed_front : (names : List (List ℕ)) (table : Table) (text : List ℕ) (earlier ts : List TextToken) (fault : Option LexFault) (us vs : List Token) (n : ℕ)
    → Lexes (record { text = text; at = 0 }) (earlier ++ ts) fault → EndClauses earlier → seen_tokens names text ts ≡ us ++ vs → n ≡ length us → CanGoOn (rules_by names table) us
    → IsCompleted names table text earlier (take n ts)
completed_front names table text earlier ts fault us vs n h whole e count can =
    let P : List TextToken → Type 0 = λ xs. Lexes (record { text = text; at = 0 }) (earlier ++ xs) fault in
    let Q : List Token → Type 0 = λ xs. CanGoOn (rules_by names table) xs in
    let C : ℕ → Type 0 = λ m. IsCompleted names table text earlier (take m ts) in
    subst C (sym count) (completed names table text earlier (take (length us) ts) (drop (length us) ts) fault (subst P (sym (take-append-drop (length us) ts)) h) whole
    (subst Q (sym (front_tokens names text ts us vs e)) can))

pub before_unexpected : (names : List (List ℕ)) (table : Table) (text : List ℕ) (earlier ts : List TextToken) (fault : Option LexFault) (rest : List Token)
    → Lexes (record { text = text; at = 0 }) (earlier ++ ts) fault → EndClauses earlier → IsUnexpected (rules_by names table) (seen_tokens names text ts) rest
    → IsCompleted names table text earlier (take (before_rest (seen_tokens names text ts) rest) ts)
before_unexpected names table text earlier ts fault rest h whole u =
    completed_front names table text earlier ts fault u.before rest (before_rest (seen_tokens names text ts) rest) h whole u.whole (omega (arith, ap length u.whole, length-append u.before rest)) u.can

pub with_deep : (names : List (List ℕ)) (table : Table) (text : List ℕ) (earlier ts : List TextToken) (fault : Option LexFault) (rest : List Token)
    → Lexes (record { text = text; at = 0 }) (earlier ++ ts) fault → EndClauses earlier → IsDeep 1000 (rules_by names table) (seen_tokens names text ts) rest
    → IsCompleted names table text earlier (take (suc (before_rest (seen_tokens names text ts) rest)) ts)
with_deep names table text earlier ts fault rest h whole d =
    let us = d.before ++ d.token ∷ [] in
    let vs = d.some.0 in
    let P : List Token → Type 0 = λ xs. IsClause (rules_by names table) xs in
    let clause = subst P (sym (append_assoc d.before (d.token ∷ []) vs)) (d.some.1, d.some.2, d.some.4) in
    completed_front names table text earlier ts fault us d.after (suc (before_rest (seen_tokens names text ts) rest)) h whole (d.whole ∙ sym (append_assoc d.before (d.token ∷ []) d.after))
    (omega (arith, ap length d.whole, ap length d.cuts, length-append d.before (d.token ∷ d.after), length-append d.before (d.token ∷ []))) (vs, clause)
