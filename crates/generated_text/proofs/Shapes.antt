-- The clauses of generated predicates: what each is read as, and that it is a definite clause.
use Rattle.std.proofs.Common.{◌≡◌, ℕ, ◌<◌, true, false, List, [], ◌∷◌, ◌++◌, map, codes, Ok, Err, refl}
use Rattle.cti_terms.specs.Numbers.{number_of}
use Rattle.prolog_grammar.specs.Token.{Token}
use Rattle.prolog_grammar.specs.Fault.{Verdict}
use Rattle.prolog_grammar.specs.Placed.{Part, placed_rules, Var}
use Rattle.prolog_grammar.specs.Machine.{start}
use Rattle.prolog_grammar.specs.Walk.{walk}
use Rattle.prolog_terms.specs.Symbols.{none_seen}
use Rattle.prolog_operators.specs.Table.{standard}
use Rattle.prolog_reader.specs.Words.{known}
use Rattle.prolog_tokens.specs.Bytes.{is_graphic}
use Rattle.generated_text.proofs.Signs.{Sign, name, letter, neck, paren, paren_end, list, list_end, comma, bar, stop, Entry, at_once, spaced, end_signs, AreFew}
use Rattle.generated_text.proofs.Seen.{shown}

-- a clause: the two that append by predicate k, the two that reverse by k with a call of j, and the one that calls j
-- twice
pub data Shape : Type 0 where
  append_none : ℕ → Shape
  append_more : ℕ → Shape
  reverse_none : ℕ → Shape
  reverse_more : ℕ → ℕ → Shape
  repeat : ℕ → ℕ → Shape

abbrev once : List Sign → List Entry
once signs = map at_once signs

-- the tokens of a clause
abbrev pub entries : Shape → List Entry
entries (append_none k) = once (name k ∷ paren ∷ list ∷ list_end ∷ comma ∷ letter 76 ∷ comma ∷ letter 76 ∷ paren_end ∷ stop ∷ [])
entries (append_more k) =
    once (name k ∷ paren ∷ list ∷ letter 72 ∷ bar ∷ letter 84 ∷ list_end ∷ comma ∷ letter 76 ∷ comma ∷ list ∷ letter 72 ∷ bar ∷ letter 82 ∷ list_end ∷ paren_end ∷ [])
    ++ spaced neck ∷ spaced (name k) ∷ once (paren ∷ letter 84 ∷ comma ∷ letter 76 ∷ comma ∷ letter 82 ∷ paren_end ∷ stop ∷ [])
entries (reverse_none k) = once (name k ∷ paren ∷ list ∷ list_end ∷ comma ∷ list ∷ list_end ∷ paren_end ∷ stop ∷ [])
entries (reverse_more k j) =
    once (name k ∷ paren ∷ list ∷ letter 72 ∷ bar ∷ letter 84 ∷ list_end ∷ comma ∷ letter 82 ∷ paren_end ∷ [])
    ++ spaced neck ∷ spaced (name k) ∷ once (paren ∷ letter 84 ∷ comma ∷ letter 83 ∷ paren_end ∷ comma ∷ [])
    ++ spaced (name j) ∷ once (paren ∷ letter 83 ∷ comma ∷ list ∷ letter 72 ∷ list_end ∷ comma ∷ letter 82 ∷ paren_end ∷ stop ∷ [])
entries (repeat k j) =
    once (name k ∷ paren ∷ letter 88 ∷ comma ∷ letter 89 ∷ paren_end ∷ [])
    ++ spaced neck ∷ spaced (name j) ∷ once (paren ∷ letter 88 ∷ comma ∷ letter 90 ∷ paren_end ∷ comma ∷ [])
    ++ spaced (name j) ∷ once (paren ∷ letter 90 ∷ comma ∷ letter 89 ∷ paren_end ∷ stop ∷ [])

-- the predicates in it
abbrev pub IsFewIn : Shape → Type 0
IsFewIn (append_none k) = k < 1000
IsFewIn (append_more k) = k < 1000
IsFewIn (reverse_none k) = k < 1000
IsFewIn (reverse_more k j) = (k < 1000) × (j < 1000)
IsFewIn (repeat k j) = (k < 1000) × (j < 1000)

pub entries_few : (s : Shape) → IsFewIn s → AreFew (entries s)
entries_few (append_none k) h = search (h)
entries_few (append_more k) h = search (h)
entries_few (reverse_none k) h = search (h)
entries_few (reverse_more k j) h = search (h.0, h.1)
entries_few (repeat k j) h = search (h.0, h.1)

-- each token is ended by the one after it, and the last by a newline
pub entries_end : (s : Shape) (after : List ℕ) → end_signs (entries s) (10 ∷ after) ≡ true
unfolding is_graphic
entries_end (append_none k) after = refl
entries_end (append_more k) after = refl
entries_end (reverse_none k) after = refl
entries_end (reverse_more k j) after = refl
entries_end (repeat k j) after = refl

-- the names that a reader begins with
abbrev pub base : List (List ℕ)
base =
    codes "," ∷ codes "[]" ∷ codes "{}" ∷ codes "." ∷ codes ":-" ∷ codes "op" ∷ codes "xfx" ∷ codes "xfy" ∷ codes "yfx" ∷ codes "fx" ∷ codes "fy" ∷ codes "|" ∷ codes "-->" ∷ codes "?-" ∷ codes ";" ∷ codes "->"
    ∷ codes "\\+" ∷ codes "=" ∷ codes "\\=" ∷ codes "==" ∷ codes "\\==" ∷ codes "@<" ∷ codes "@=<" ∷ codes "@>" ∷ codes "@>=" ∷ codes "=.." ∷ codes "is" ∷ codes "=:=" ∷ codes "=\\=" ∷ codes "<" ∷ codes "=<" ∷ codes ">"
    ∷ codes ">=" ∷ codes "+" ∷ codes "-" ∷ codes "/\\" ∷ codes "\\/" ∷ codes "*" ∷ codes "/" ∷ codes "//" ∷ codes "rem" ∷ codes "mod" ∷ codes "<<" ∷ codes ">>" ∷ codes "**" ∷ codes "^" ∷ codes "\\" ∷ []

abbrev nothing : Part
nothing = record { at = 0; shape = Var 0; depth = 0 }

abbrev part_in : Verdict Part → Part
part_in (Ok r) = r.0
part_in (Err f) = nothing

module _ (more : List (List ℕ)) (w : ℕ → ℕ) where
  -- what a clause's tokens and others after them are read as
  abbrev pub read : Shape → ℕ → List Token → Verdict Part
  read s at rest =
      let names = base ++ more in
      let table = standard names in
      walk 1000 (placed_rules 1000 table.infixes table.prefixes (known names)) start (shown w (number_of names (codes ":-")) none_seen false at (entries s) ++ rest)

  -- the term of a clause
  abbrev pub part : Shape → ℕ → Part
  part s at = part_in (read s at [])

  pub read_is : (s : Shape) (at : ℕ) (rest : List Token) → read s at rest ≡ Ok (part s at, rest)
  unfolding walk
  read_is (append_none k) at rest = refl
  read_is (append_more k) at rest = refl
  read_is (reverse_none k) at rest = refl
  read_is (reverse_more k j) at rest = refl
  read_is (repeat k j) at rest = refl
