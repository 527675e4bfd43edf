-- To believe, for reading.
-- The grammar of terms, by cases. Each relation has the tokens before and after what is read: from us it is read, and
-- vs is left.
--
-- A term at a bound is an operand, and then infix operators with their right sides for as long as the next token is one
-- that is taken. So an operator belongs to the innermost term that can take it. A clause is a term at 1200 with End
-- after it. A prefix application has its operator's priority, and every other operand has priority 0.
--
-- To believe: all of this file.
-- Source: ISO/IEC 13211-1:1995, 6.3.1 to 6.3.7. This profile departs from the standard in three points: an operator may
-- be an atom anywhere, and then has priority 0; the bar is not an operator; where the standard allows two readings, the
-- cases below say which one counts.
use Rattle.std.specs.Prelude.{◌≡◌, ℕ, ◌≤◌, List, [], ◌∷◌, Option, Some, None, true, false}
use Rattle.prolog_grammar.specs.Token.{Value, integer, Token, Leaf, Joined, Name, Paren, Touching, ParenEnd, Bracket, BracketEnd, Brace, BraceEnd, Comma, Bar, clings, touches}
use Rattle.prolog_grammar.specs.Rules.{Infix, Prefix, plain, brackets, braces, Rules, taken_first, ends_atom}

mutual
  -- Operand rules us vs bound t p: from us an operand at the bound is read, which is t of priority p, and vs is left
  pub data Operand {T : Type 0} (rules : Rules T) : List Token → List Token → ℕ → T → ℕ → Type 0 where
    -- a variable, an integer or a text
    a_leaf : {at : ℕ} {v : Value} {rest : List Token} {bound : ℕ} → Operand rules (Leaf at v ∷ rest) rest bound (rules.leaf at v) 0
    -- an integer that touches a - before it, where that - was taken as an infix operator, as in a -1
    a_joined : {at i : ℕ} {rest : List Token} {bound : ℕ} → Operand rules (Joined at i ∷ rest) rest bound (rules.leaf at (integer i)) 0
    -- the name - with an integer directly after it, whatever operator - is
    a_negative : {at n at' i : ℕ} {rest : List Token} {bound : ℕ}
        → Operand rules (Name at n ∷ Joined at' i ∷ rest) rest bound (rules.negative at i) 0
    -- a name that is not a prefix operator, and to which nothing clings
    an_atom : {at n : ℕ} {rest : List Token} {bound : ℕ}
        → rules.prefixes n ≡ None → clings rest ≡ false → Operand rules (Name at n ∷ rest) rest bound (rules.atom (plain at n)) 0
    -- a prefix operator as an atom
    a_prefix_atom : {at n : ℕ} {op : Prefix} {rest : List Token} {bound : ℕ}
        → rules.prefixes n ≡ Some op → ends_atom rules rest ≡ true → Operand rules (Name at n ∷ rest) rest bound (rules.atom (plain at n)) 0
    -- a prefix operator of a priority within the bound, in all other cases, and its operand
    a_prefix : {at n : ℕ} {op : Prefix} {us rest : List Token} {bound : ℕ} {t : T} {p : ℕ}
        → rules.prefixes n ≡ Some op → clings us ≡ false → ends_atom rules us ≡ false → op.priority ≤ bound
        → TermOf rules us rest op.right t p → Operand rules (Name at n ∷ us) rest bound (rules.prefixed at n t) op.priority
    -- the atoms [] and {}, also with layout inside
    empty_brackets : {at : ℕ} {rest : List Token} {bound : ℕ}
        → touches rest ≡ false → Operand rules (Bracket at ∷ BracketEnd ∷ rest) rest bound (rules.atom (brackets at)) 0
    empty_braces : {at : ℕ} {rest : List Token} {bound : ℕ}
        → touches rest ≡ false → Operand rules (Brace at ∷ BraceEnd ∷ rest) rest bound (rules.atom (braces at)) 0
    -- a name with a parenthesis directly after it, and arguments; the name may be [] or {}
    a_compound : {at n at' : ℕ} {us rest : List Token} {bound : ℕ} {ts : List T}
        → Arguments rules us rest ts → Operand rules (Name at n ∷ Touching at' ∷ us) rest bound (rules.call (plain at n) ts) 0
    a_brackets_compound : {at at' : ℕ} {us rest : List Token} {bound : ℕ} {ts : List T}
        → Arguments rules us rest ts → Operand rules (Bracket at ∷ BracketEnd ∷ Touching at' ∷ us) rest bound (rules.call (brackets at) ts) 0
    a_braces_compound : {at at' : ℕ} {us rest : List Token} {bound : ℕ} {ts : List T}
        → Arguments rules us rest ts → Operand rules (Brace at ∷ BraceEnd ∷ Touching at' ∷ us) rest bound (rules.call (braces at) ts) 0
    -- a list
    a_list : {at : ℕ} {us rest : List Token} {bound : ℕ} {ts : List T} {tail : Option T}
        → Items rules us rest ts tail → Operand rules (Bracket at ∷ us) rest bound (rules.listed at ts tail) 0
    -- a term at 1200 in braces
    a_curly : {at : ℕ} {us rest : List Token} {bound : ℕ} {t : T} {p : ℕ}
        → TermOf rules us (BraceEnd ∷ rest) 1200 t p → Operand rules (Brace at ∷ us) rest bound (rules.curled at t) 0
    -- a term at 1200 in parentheses; the opening one may touch a token that is not a name, as in ((a))
    a_group : {at : ℕ} {us rest : List Token} {bound : ℕ} {t : T} {p : ℕ}
        → TermOf rules us (ParenEnd ∷ rest) 1200 t p → Operand rules (Paren at ∷ us) rest bound (rules.grouped at t) 0
    a_touching_group : {at : ℕ} {us rest : List Token} {bound : ℕ} {t : T} {p : ℕ}
        → TermOf rules us (ParenEnd ∷ rest) 1200 t p → Operand rules (Touching at ∷ us) rest bound (rules.grouped at t) 0

  -- Arguments rules us vs ts: the arguments ts, each at 999, with commas between, and the parenthesis that closes them
  pub data Arguments {T : Type 0} (rules : Rules T) : List Token → List Token → List T → Type 0 where
    last_argument : {us rest : List Token} {t : T} {p : ℕ} → TermOf rules us (ParenEnd ∷ rest) 999 t p → Arguments rules us rest (t ∷ [])
    next_argument : {us vs rest : List Token} {t : T} {p : ℕ} {ts : List T}
        → TermOf rules us (Comma ∷ vs) 999 t p → Arguments rules vs rest ts → Arguments rules us rest (t ∷ ts)

  -- Items rules us vs ts tail: a list's elements ts, each at 999, with commas between, the tail at 999 after a bar, if
  -- there is one, and the bracket that closes the list
  pub data Items {T : Type 0} (rules : Rules T) : List Token → List Token → List T → Option T → Type 0 where
    last_item : {us rest : List Token} {t : T} {p : ℕ} → TermOf rules us (BracketEnd ∷ rest) 999 t p → Items rules us rest (t ∷ []) None
    with_tail : {us vs rest : List Token} {t : T} {p : ℕ} {t' : T} {p' : ℕ}
        → TermOf rules us (Bar ∷ vs) 999 t p → TermOf rules vs (BracketEnd ∷ rest) 999 t' p' → Items rules us rest (t ∷ []) (Some t')
    next_item : {us vs rest : List Token} {t : T} {p : ℕ} {ts : List T} {tail : Option T}
        → TermOf rules us (Comma ∷ vs) 999 t p → Items rules vs rest ts tail → Items rules us rest (t ∷ ts) tail

  -- TermOf rules us vs bound t p: from us a term at the bound is read, which is t of priority p, and vs is left
  pub data TermOf {T : Type 0} (rules : Rules T) : List Token → List Token → ℕ → T → ℕ → Type 0 where
    -- an operand and what follows it
    a_term : {us vs rest : List Token} {bound : ℕ} {t : T} {p : ℕ} {t' : T} {p' : ℕ}
        → Operand rules us vs bound t p → Rest rules vs rest bound t p t' p' → TermOf rules us rest bound t' p'

  -- Rest rules us vs bound t p t' p': what follows t of priority p at the bound makes of it t' of priority p', and vs
  -- is left
  pub data Rest {T : Type 0} (rules : Rules T) : List Token → List Token → ℕ → T → ℕ → T → ℕ → Type 0 where
    -- the next token is not an operator that is taken
    no_more : {rest : List Token} {bound : ℕ} {t : T} {p : ℕ} → taken_first rules bound p rest ≡ None → Rest rules rest rest bound t p t p
    -- an operator that is taken, its right side, and what follows both
    an_infix : {token : Token} {us vs rest : List Token} {bound : ℕ} {t : T} {p : ℕ} {op : ℕ × Infix} {t' : T} {q : ℕ} {t'' : T} {p'' : ℕ}
        → taken_first rules bound p (token ∷ us) ≡ Some op → TermOf rules us vs op.1.right t' q
        → Rest rules vs rest bound (rules.infixed op.0 t t') op.1.priority t'' p'' → Rest rules (token ∷ us) rest bound t p t'' p''
