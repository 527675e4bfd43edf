-- To believe, for reading.
-- Terms as they stand in a text: each with the place of the first byte of its first token, counted from 0.
--
-- A parenthesis round a term is a token of that term. A list is built of cells '.' with two arguments and [], a text is
-- the list of its character codes, and a term in braces is {} of it; all cells have the place of the bracket or the
-- text. -0 is 0.
--
-- The depth is counted up to the limit only, so that it fits into a number of the code.
--
-- To believe: `Tree`, `part_of` and what it depends on. `placed_rules` is what the code builds while it reads.
use Rattle.std.specs.Prelude.{ℕ, suc, ℤ, pos, neg_ℤ, nat_le, if◌then◌else◌, List, [], ◌∷◌, map, Option, Some, None}
use Rattle.prolog_grammar.specs.Token.{Value, variable, integer, text}
use Rattle.prolog_grammar.specs.Rules.{Infix, Prefix, Head, plain, brackets, braces, Rules}
use Rattle.prolog_grammar.specs.Syntax.{Syntax, Syntaxes, leaf, negative, atom, call, prefixed, infixed, listed, listed_to, curled, grouped, nothing, more, greater}

mutual
  -- a term and its place
  pub data Tree : Type 0 where
    tree : ℕ → Shape → Tree

  -- a variable by its number in the clause, an integer, or a name with its arguments
  pub data Shape : Type 0 where
    Var : ℕ → Shape
    Int : ℤ → Shape
    Fun : ℕ → Trees → Shape

  -- arguments in order
  pub data Trees : Type 0 where
    no_trees : Trees
    more_trees : Tree → Trees → Trees

-- one more level, counted up to the limit
abbrev pub deeper : ℕ → ℕ → ℕ
deeper limit d = if nat_le limit d then limit else suc d

-- a depth, counted up to the limit
abbrev pub capped : ℕ → ℕ → ℕ
capped limit d = if nat_le limit d then limit else d

-- a term with its place and its depth up to the limit
pub record Part : Type 0 where
  pub at : ℕ
  pub shape : Shape
  pub depth : ℕ

-- the term without its depth
abbrev pub part_tree : Part → Tree
part_tree p = tree p.at p.shape

-- terms as arguments
abbrev pub row_of : List Part → Trees
row_of [] = no_trees
row_of (p ∷ ps) = more_trees (part_tree p) (row_of ps)

-- the depth of the deepest of these terms
abbrev pub depth_of : List Part → ℕ
depth_of [] = 0
depth_of (p ∷ ps) = greater p.depth (depth_of ps)

-- the numbers of the names , [] {} and .
pub record Known : Type 0 where
  pub comma : ℕ
  pub nil : ℕ
  pub curly : ℕ
  pub cell : ℕ

-- the name that arguments may follow
abbrev pub name_of : Known → Head → ℕ
name_of names (plain at n) = n
name_of names (brackets at) = names.nil
name_of names (braces at) = names.curly

-- its place
abbrev pub place_of : Head → ℕ
place_of (plain at n) = at
place_of (brackets at) = at
place_of (braces at) = at

-- a variable or an integer at a place
abbrev pub single_at : ℕ → ℕ → Shape → Part
single_at limit at shape = record { at = at; shape = shape; depth = deeper limit 0 }

-- a name at a place, with these arguments
abbrev pub named_at : ℕ → ℕ → ℕ → List Part → Part
named_at limit at n ps = record { at = at; shape = Fun n (row_of ps); depth = deeper limit (depth_of ps) }

-- the empty list at a place
abbrev pub nil_at : ℕ → Known → ℕ → Part
nil_at limit names at = named_at limit at names.nil []

-- cells with these elements and a last tail, all at one place
abbrev pub chain : ℕ → Known → ℕ → List Part → Part → Part
chain limit names at [] tail = tail
chain limit names at (p ∷ ps) tail = named_at limit at names.cell (p ∷ chain limit names at ps tail ∷ [])

-- the tail of a list, which is [] where none is given
abbrev pub tail_or_nil : ℕ → Known → ℕ → Option Part → Part
tail_or_nil limit names at None = nil_at limit names at
tail_or_nil limit names at (Some p) = p

-- a variable, an integer, or the list of a text's character codes
abbrev pub value_at : ℕ → Known → ℕ → Value → Part
value_at limit names at (variable v) = single_at limit at (Var v)
value_at limit names at (integer i) = single_at limit at (Int (pos i))
value_at limit names at (text codes) = chain limit names at (map (λ c. single_at limit at (Int (pos c))) codes) (nil_at limit names at)

-- the same term, which begins at a parenthesis
abbrev pub placed_at : ℕ → Part → Part
placed_at at p = record { at = at; shape = p.shape; depth = p.depth }

-- the rules that build terms with places
abbrev pub placed_rules : ℕ → (ℕ → Option Infix) → (ℕ → Option Prefix) → Known → Rules Part
placed_rules limit infixes prefixes names = record {
  infixes = infixes;
  prefixes = prefixes;
  comma = names.comma;
  leaf = value_at limit names;
  negative = λ at i. single_at limit at (Int (neg_ℤ (pos i)));
  atom = λ h. named_at limit (place_of h) (name_of names h) [];
  call = λ h ps. named_at limit (place_of h) (name_of names h) ps;
  prefixed = λ at n p. named_at limit at n (p ∷ []);
  infixed = λ n p q. named_at limit p.at n (p ∷ q ∷ []);
  listed = λ at ps tail. chain limit names at ps (tail_or_nil limit names at tail);
  curled = λ at p. named_at limit at names.curly (p ∷ []);
  grouped = placed_at;
  depth = λ p. p.depth;
}

abbrev mutual
  -- the term that a reading is
  pub part_of : ℕ → Known → Syntax → Part
  part_of limit names (leaf at v) = value_at limit names at v
  part_of limit names (negative at i) = single_at limit at (Int (neg_ℤ (pos i)))
  part_of limit names (atom h) = named_at limit (place_of h) (name_of names h) []
  part_of limit names (call h ts) = named_at limit (place_of h) (name_of names h) (parts_of limit names ts)
  part_of limit names (prefixed at n t) = named_at limit at n (part_of limit names t ∷ [])
  part_of limit names (infixed n t u) = named_at limit (part_of limit names t).at n (part_of limit names t ∷ part_of limit names u ∷ [])
  part_of limit names (listed at ts) = chain limit names at (parts_of limit names ts) (nil_at limit names at)
  part_of limit names (listed_to at ts t) = chain limit names at (parts_of limit names ts) (part_of limit names t)
  part_of limit names (curled at t) = named_at limit at names.curly (part_of limit names t ∷ [])
  part_of limit names (grouped at t) = placed_at at (part_of limit names t)

  -- the terms of these readings
  pub parts_of : ℕ → Known → Syntaxes → List Part
  parts_of limit names nothing = []
  parts_of limit names (more t ts) = part_of limit names t ∷ parts_of limit names ts
