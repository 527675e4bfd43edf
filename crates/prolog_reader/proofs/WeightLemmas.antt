-- A token has more bytes than half the nodes that it pays for, and makes the variables more.
use Rattle.std.proofs.Common.{◌≡◌, ℕ, ◌+◌, ◌*◌, ◌-◌, ◌≤◌, Bool, true, false, List, length, drop, Option, refl, ap, arith, length-drop, length-take}
use Rattle.prolog_tokens.specs.Decoding.{IsTokenOf, bytes_of}
use Rattle.prolog_tokens.specs.declared.token.TokenKind.{TokenKind}
use Rattle.prolog_tokens.specs.declared.token.TokenKind.TheVariants as kind
use Rattle.prolog_tokens.specs.declared.token.Token.{Token as TextToken}
use Rattle.prolog_tokens.proofs.NextLemmas.{token_within}
use Rattle.prolog_grammar.specs.Token.{Token}
use Rattle.prolog_terms.specs.Symbols.{Seen, kind_token, touches_before, joins_before, token_of, is_anonymous, is_seen, with_variable, kind_seen, seen_after}
use Rattle.prolog_reader.specs.Measures.{weight}
use Rattle.prolog_reader.proofs.TextLemmas.{item_spells}

kind_weight : (names : List (List ℕ)) (seen : Seen) (touching joined : Bool) (k : TokenKind) (bytes : List ℕ) (at : ℕ) → 1 ≤ length bytes
    → weight (kind_token names seen touching joined k bytes at) + 1 ≤ 2 * length bytes
kind_weight names seen touching joined kind.Name bytes at h = omega (arith, h)
kind_weight names seen touching joined kind.Quoted bytes at h = omega (arith, h)
kind_weight names seen touching joined kind.Var bytes at h = omega (arith, h)
kind_weight names seen touching true (kind.Int i) bytes at h = omega (arith, h)
kind_weight names seen touching false (kind.Int i) bytes at h = omega (arith, h)
kind_weight names seen touching joined kind.Text bytes at h = let few = (item_spells 0 (drop 1 bytes)).few in omega (arith, h, few, length-drop 1 bytes)
kind_weight names seen true joined kind.Paren bytes at h = omega (arith, h)
kind_weight names seen false joined kind.Paren bytes at h = omega (arith, h)
kind_weight names seen touching joined kind.ParenEnd bytes at h = omega (arith, h)
kind_weight names seen touching joined kind.List bytes at h = omega (arith, h)
kind_weight names seen touching joined kind.ListEnd bytes at h = omega (arith, h)
kind_weight names seen touching joined kind.Curly bytes at h = omega (arith, h)
kind_weight names seen touching joined kind.CurlyEnd bytes at h = omega (arith, h)
kind_weight names seen touching joined kind.Comma bytes at h = omega (arith, h)
kind_weight names seen touching joined kind.Bar bytes at h = omega (arith, h)
kind_weight names seen touching joined kind.End bytes at h = omega (arith, h)

pub token_weight : (names : List (List ℕ)) (text : List ℕ) (seen : Seen) (before : Option TextToken) (t : TextToken) (u : Token) → IsTokenOf text t → u ≡ token_of names text seen before t
    → weight u + 1 + 2 * t.start ≤ 2 * t.end
token_weight names text seen before t u given is =
    let within = token_within text t given in
    let bytes : length (bytes_of text t) ≡ t.end - t.start = omega (arith, length-take (t.end - t.start) (drop t.start text), length-drop t.start text, within) in
    let w = kind_weight names seen (touches_before before t) (joins_before text before t) t.kind (bytes_of text t) t.start (omega (arith, bytes, within)) in
    omega (arith, w, bytes, within, ap weight is)

kind_grows : (seen : Seen) (k : TokenKind) (bytes : List ℕ) → seen.count ≤ (kind_seen seen k bytes).count
kind_grows seen kind.Var bytes = by_tests (is_anonymous bytes) (is_seen seen bytes) refl refl
  where
    by_tests : (a b : Bool) → is_anonymous bytes ≡ a → is_seen seen bytes ≡ b → seen.count ≤ (with_variable seen bytes).count
    by_tests true b e f = rw e (omega arith)
    by_tests false true e f = rw (e, f) (omega arith)
    by_tests false false e f = rw (e, f) (omega arith)
kind_grows seen kind.Name bytes = omega arith
kind_grows seen kind.Quoted bytes = omega arith
kind_grows seen (kind.Int i) bytes = omega arith
kind_grows seen kind.Text bytes = omega arith
kind_grows seen kind.Paren bytes = omega arith
kind_grows seen kind.ParenEnd bytes = omega arith
kind_grows seen kind.List bytes = omega arith
kind_grows seen kind.ListEnd bytes = omega arith
kind_grows seen kind.Curly bytes = omega arith
kind_grows seen kind.CurlyEnd bytes = omega arith
kind_grows seen kind.Comma bytes = omega arith
kind_grows seen kind.Bar bytes = omega arith
kind_grows seen kind.End bytes = omega arith

pub count_grows : (text : List ℕ) (seen : Seen) (t : TextToken) → seen.count ≤ (seen_after text seen t).count
count_grows text seen t = kind_grows seen t.kind (bytes_of text t)
