-- A term that is read has the places of its tokens.
use Rattle.std.proofs.Common.{ℕ, ◌≤◌, pos, List, [], ◌∷◌, map, Option, sym, subst}
use Rattle.std.specs.List.{AllByRecursion}
use Rattle.prolog_grammar.specs.Token.{Value, variable, integer, text, Token, Leaf, Joined, Name, Paren, Touching, Bracket, Brace}
use Rattle.prolog_grammar.specs.Rules.{Infix, Prefix}
use Rattle.prolog_grammar.specs.Syntax.{Syntax, row, syntax_rules}
use Rattle.prolog_grammar.specs.Placed.{Part, row_of, Known, single_at, nil_at, chain, value_at, part_of, parts_of, Int}
use Rattle.prolog_grammar.specs.Places.{IsShapePlaced, ArePlaced}
use Rattle.prolog_grammar.specs.Reading.{ReadsAs}
use Rattle.prolog_grammar.proofs.Keeps.{Keeps, term_keeps}

module _ (size : ℕ) where
  -- the token stands within the text, where it has a place
  abbrev pub IsWithin : Token → Type 0
  IsWithin (Leaf at v) = at ≤ size
  IsWithin (Joined at i) = at ≤ size
  IsWithin (Name at n) = at ≤ size
  IsWithin (Paren at) = at ≤ size
  IsWithin (Touching at) = at ≤ size
  IsWithin (Bracket at) = at ≤ size
  IsWithin (Brace at) = at ≤ size
  IsWithin _ = Unit {0}

  abbrev pub IsPartPlaced : Part → Type 0
  IsPartPlaced p = (p.at ≤ size) × IsShapePlaced size p.shape

  row_placed : (ps : List Part) → AllByRecursion IsPartPlaced ps → ArePlaced size (row_of ps)
  row_placed [] h = tt
  row_placed (p ∷ ps) h = (h.0, row_placed ps h.1)

  module _ (limit : ℕ) (names : Known) where
    chain_placed : (at : ℕ) (ps : List Part) (tail : Part) → at ≤ size → AllByRecursion IsPartPlaced ps → IsPartPlaced tail → IsPartPlaced (chain limit names at ps tail)
    chain_placed at [] tail le h k = k
    chain_placed at (p ∷ ps) tail le h k = (le, (h.0, (chain_placed at ps tail le h.1 k, tt)))

    codes_placed : (at : ℕ) (codes : List ℕ) → at ≤ size → AllByRecursion IsPartPlaced (map (λ c. single_at limit at (Int (pos c))) codes)
    codes_placed at [] le = tt
    codes_placed at (c ∷ cs) le = ((le, tt), codes_placed at cs le)

    value_placed : (at : ℕ) (v : Value) → at ≤ size → IsPartPlaced (value_at limit names at v)
    value_placed at (variable v) le = (le, tt)
    value_placed at (integer i) le = (le, tt)
    value_placed at (text codes) le = chain_placed at (map (λ c. single_at limit at (Int (pos c))) codes) (nil_at limit names at) le (codes_placed at codes le) (le, tt)

    abbrev pub IsRead : Syntax → Type 0
    IsRead s = IsPartPlaced (part_of limit names s)

    parts_placed : (ts : List Syntax) → AllByRecursion IsRead ts → AllByRecursion IsPartPlaced (parts_of limit names (row ts))
    parts_placed [] h = tt
    parts_placed (t ∷ ts) h = (h.0, parts_placed ts h.1)

    syntax_keeps : (infixes : ℕ → Option Infix) (prefixes : ℕ → Option Prefix) → Keeps (syntax_rules infixes prefixes names.comma) IsWithin IsRead
    syntax_keeps infixes prefixes = record {
      leaf = λ at v g. value_placed at v g;
      joined = λ at i g. (g, tt);
      negative = λ at n i g. (g, tt);
      atom = λ at n g. (g, tt);
      empty_list = λ at g. (g, tt);
      empty_curly = λ at g. (g, tt);
      call = λ at n ts g h. (g, row_placed (parts_of limit names (row ts)) (parts_placed ts h));
      call_list = λ at ts g h. (g, row_placed (parts_of limit names (row ts)) (parts_placed ts h));
      call_curly = λ at ts g h. (g, row_placed (parts_of limit names (row ts)) (parts_placed ts h));
      prefixed = λ at n t g h. (g, (h, tt));
      infixed = λ at n t u g h k. (h.0, (h, (k, tt)));
      comma = λ t u h k. (h.0, (h, (k, tt)));
      listed = λ at ts g h. chain_placed at (parts_of limit names (row ts)) (nil_at limit names at) g (parts_placed ts h) (g, tt);
      listed_to = λ at ts t g h k. chain_placed at (parts_of limit names (row ts)) (part_of limit names t) g (parts_placed ts h) k;
      curled = λ at t g h. (g, (h, tt));
      grouped = λ at t g h. (g, h.1);
      grouped_touching = λ at t g h. (g, h.1);
    }

    -- a clause of tokens within the text
    pub reading_placed : (infixes : ℕ → Option Infix) (prefixes : ℕ → Option Prefix) (us rest : List Token) (part : Part) → ReadsAs limit infixes prefixes names us rest part
        → AllByRecursion IsWithin us → IsPartPlaced part
    reading_placed infixes prefixes us rest part r h =
        subst IsPartPlaced (sym r.built) (term_keeps (syntax_rules infixes prefixes names.comma) IsWithin IsRead (syntax_keeps infixes prefixes) r.reads h).0
