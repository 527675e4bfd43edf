-- To believe, for reading.
-- What is read, as a tree that keeps every token. The depth rule is defined on it, and every other tree is made of it.
--
-- To believe: all of this file.
use Rattle.std.specs.Prelude.{ℕ, suc, nat_le, List, [], ◌∷◌, length, Option, Some, None, if◌then◌else◌}
use Rattle.prolog_grammar.specs.Token.{Value, variable, integer, text}
use Rattle.prolog_grammar.specs.Rules.{Infix, Prefix, Head, Rules}

mutual
  -- a term with its tokens; the numbers are a place, and then a name or an integer
  pub data Syntax : Type 0 where
    leaf : ℕ → Value → Syntax
    negative : ℕ → ℕ → Syntax
    atom : Head → Syntax
    call : Head → Syntaxes → Syntax
    prefixed : ℕ → ℕ → Syntax → Syntax
    infixed : ℕ → Syntax → Syntax → Syntax
    listed : ℕ → Syntaxes → Syntax
    listed_to : ℕ → Syntaxes → Syntax → Syntax
    curled : ℕ → Syntax → Syntax
    grouped : ℕ → Syntax → Syntax

  -- terms in order
  pub data Syntaxes : Type 0 where
    nothing : Syntaxes
    more : Syntax → Syntaxes → Syntaxes

-- a list of terms, in order
abbrev pub row : List Syntax → Syntaxes
row [] = nothing
row (t ∷ ts) = more t (row ts)

-- the greater of two numbers
abbrev pub greater : ℕ → ℕ → ℕ
greater a b = if nat_le a b then b else a

abbrev mutual
  -- How deep a term is: 1 without arguments, else one more than its deepest argument. A list and a text are chains of
  -- cells with two arguments, and a term in parentheses is that term.
  pub depth : Syntax → ℕ
  depth (leaf at (variable v)) = 1
  depth (leaf at (integer i)) = 1
  depth (leaf at (text codes)) = suc (length codes)
  depth (negative at i) = 1
  depth (atom head) = 1
  depth (call head ts) = suc (depth_among ts)
  depth (prefixed at n t) = suc (depth t)
  depth (infixed n t u) = suc (greater (depth t) (depth u))
  depth (listed at ts) = depth_chain ts 1
  depth (listed_to at ts t) = depth_chain ts (depth t)
  depth (curled at t) = suc (depth t)
  depth (grouped at t) = depth t

  -- the deepest of these
  pub depth_among : Syntaxes → ℕ
  depth_among nothing = 0
  depth_among (more t ts) = greater (depth t) (depth_among ts)

  -- cells with these elements, and a last tail of that depth
  pub depth_chain : Syntaxes → ℕ → ℕ
  depth_chain nothing d = d
  depth_chain (more t ts) d = suc (greater (depth t) (depth_chain ts d))

-- a list, with or without a tail
abbrev pub list_of : ℕ → List Syntax → Option Syntax → Syntax
list_of at ts None = listed at (row ts)
list_of at ts (Some t) = listed_to at (row ts) t

-- the rules that build the tree with all tokens
abbrev pub syntax_rules : (ℕ → Option Infix) → (ℕ → Option Prefix) → ℕ → Rules Syntax
syntax_rules infixes prefixes comma = record {
  infixes = infixes;
  prefixes = prefixes;
  comma = comma;
  leaf = leaf;
  negative = negative;
  atom = atom;
  call = λ head ts. call head (row ts);
  prefixed = prefixed;
  infixed = infixed;
  listed = list_of;
  curled = curled;
  grouped = grouped;
  depth = depth;
}
