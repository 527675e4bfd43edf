-- To believe, for reading.
-- The depth rule: what a reading asks of each of its tokens, and the first token that breaks the rule.
--
-- Openers are: a parenthesis, a bracket and a brace, up to what closes it; in a list each comma and the bar, for all
-- that follows it in the list; a prefix operator that is applied, for its operand; and an infix operator, for its right
-- side. A text of n characters counts as n further openers for itself.
--
-- A token is too deep that begins an operand under more openers than the limit, and an infix operator that is taken
-- after a term of the limit's depth or more.
--
-- To believe: all of this file.
use Rattle.std.specs.Prelude.{ℕ, suc, ◌+◌, nat_le, nat_lt, List, [], ◌∷◌, length, Option, Some, None, Bool, false, if◌then◌else◌}
use Rattle.prolog_grammar.specs.Token.{Value, variable, integer, text}
use Rattle.prolog_grammar.specs.Rules.{Head, plain, brackets, braces}
use Rattle.prolog_grammar.specs.Syntax.{Syntax, Syntaxes, leaf, negative, atom, call, prefixed, infixed, listed, listed_to, curled, grouped, nothing, more, depth}

-- what a token does: nothing that counts, or it begins an operand under the given number of openers, or is an infix
-- operator after a term of that depth
pub data Load : Type 0 where
  quiet : Load
  operand : ℕ → Load
  operator : ℕ → Load

-- a variable, an integer or a text under h openers
abbrev pub value_load : ℕ → Value → Load
value_load h (variable v) = operand h
value_load h (integer i) = operand h
value_load h (text codes) = operand (h + length codes)

-- the openers over what follows these elements of a list, the first of which is under h
abbrev pub past : Syntaxes → ℕ → ℕ
past nothing h = h
past (more t ts) h = past ts (suc h)

-- the tokens of a name under h openers, in front of these
abbrev pub head_loads : ℕ → Head → List Load → List Load
head_loads h (plain at n) rest = operand h ∷ rest
head_loads h (brackets at) rest = operand h ∷ quiet ∷ rest
head_loads h (braces at) rest = operand h ∷ quiet ∷ rest

abbrev mutual
  -- the tokens of a term under h openers, in front of these
  pub loads : ℕ → Syntax → List Load → List Load
  loads h (leaf at v) rest = value_load h v ∷ rest
  loads h (negative at i) rest = operand h ∷ quiet ∷ rest
  loads h (atom head) rest = head_loads h head rest
  loads h (call head ts) rest = head_loads h head (quiet ∷ loads_of_arguments (suc h) ts rest)
  loads h (prefixed at n t) rest = operand h ∷ loads (suc h) t rest
  loads h (infixed n t u) rest = loads h t (operator (depth t) ∷ loads (suc h) u rest)
  loads h (listed at ts) rest = operand h ∷ loads_of_items (suc h) ts rest
  loads h (listed_to at ts t) rest = operand h ∷ loads_of_items (suc h) ts (loads (past ts (suc h)) t (quiet ∷ rest))
  loads h (curled at t) rest = operand h ∷ loads (suc h) t (quiet ∷ rest)
  loads h (grouped at t) rest = operand h ∷ loads (suc h) t (quiet ∷ rest)

  -- the tokens of arguments, each with the comma or parenthesis after it
  pub loads_of_arguments : ℕ → Syntaxes → List Load → List Load
  loads_of_arguments h nothing rest = rest
  loads_of_arguments h (more t ts) rest = loads h t (quiet ∷ loads_of_arguments h ts rest)

  -- the tokens of a list's elements, each with the comma, bar or bracket after it, which is an opener for what follows
  pub loads_of_items : ℕ → Syntaxes → List Load → List Load
  loads_of_items h nothing rest = rest
  loads_of_items h (more t ts) rest = loads h t (quiet ∷ loads_of_items (suc h) ts rest)

-- all tokens of a clause, and its End
abbrev pub clause_loads : Syntax → List Load
clause_loads t = loads 0 t (quiet ∷ [])

-- the token breaks the rule
abbrev pub too_deep : ℕ → Load → Bool
too_deep limit quiet = false
too_deep limit (operand h) = nat_lt limit h
too_deep limit (operator d) = nat_le limit d

-- a token's number, counted with one more before it
abbrev pub one_on : Option ℕ → Option ℕ
one_on None = None
one_on (Some i) = Some (suc i)

-- the number of the first token that breaks the rule, from 0
abbrev pub first_deep : ℕ → List Load → Option ℕ
first_deep limit [] = None
first_deep limit (l ∷ ls) = if too_deep limit l then Some 0 else one_on (first_deep limit ls)
