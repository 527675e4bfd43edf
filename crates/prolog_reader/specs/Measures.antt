-- Private.
-- How large what the machine has open is, and that its variables and names are in range. Nothing here has to be
-- believed.
use Rattle.std.specs.Prelude.{◌≡◌, ℕ, suc, ◌+◌, ◌*◌, ◌<◌, ◌≤◌, true, List, [], ◌∷◌, length}
use Rattle.prolog_grammar.specs.Token.{Value, variable, integer, text, Token, Leaf, Joined, Name, Paren, Touching, ParenEnd, Bracket, BracketEnd, Brace, BraceEnd, Comma, Bar, End}
use Rattle.prolog_grammar.specs.Rules.{Head, plain, brackets, braces}
use Rattle.prolog_grammar.specs.Placed.{Part, part_tree}
use Rattle.prolog_grammar.specs.Machine.{Open, group_open, curly_open, arguments_open, items_open, tail_open, Frame, infix_frame, prefix_frame, open_frame, State, want, named, titled, bracketed, braced, have, unsure, infix_only}
use Rattle.prolog_grammar.specs.Walk.{Next, go_on, finished}
use Rattle.prolog_terms.specs.Clauses.{nodes, is_below, is_known}

-- a token pays for its own node; a text for two of each character and one
abbrev pub value_weight : Value → ℕ
value_weight (variable v) = 1
value_weight (integer i) = 1
value_weight (text codes) = 2 * length codes + 1

abbrev pub weight : Token → ℕ
weight (Leaf at v) = value_weight v
weight (Joined at i) = 1
weight (Name at n) = 1
weight (Paren at) = 1
weight (Touching at) = 1
weight ParenEnd = 1
weight (Bracket at) = 1
weight BracketEnd = 1
weight (Brace at) = 1
weight BraceEnd = 1
weight Comma = 1
weight Bar = 1
weight End = 1

abbrev pub part_nodes : Part → ℕ
part_nodes p = nodes (part_tree p)

abbrev pub parts_nodes : List Part → ℕ
parts_nodes [] = 0
parts_nodes (p ∷ ps) = part_nodes p + parts_nodes ps

-- with the node that the name or bracket makes, and a cell for each element
abbrev pub open_nodes : Open Part → ℕ
open_nodes (group_open at) = 0
open_nodes (curly_open at) = 1
open_nodes (arguments_open h ps) = suc (parts_nodes ps)
open_nodes (items_open at ps) = suc (parts_nodes ps + length ps)
open_nodes (tail_open at ps) = suc (parts_nodes ps + length ps)

abbrev pub frame_nodes : Frame Part → ℕ
frame_nodes (infix_frame b n q left) = suc (part_nodes left)
frame_nodes (prefix_frame b at n q) = 1
frame_nodes (open_frame b o) = open_nodes o

abbrev pub stack_nodes : List (Frame Part) → ℕ
stack_nodes [] = 0
stack_nodes (f ∷ k) = frame_nodes f + stack_nodes k

abbrev pub state_nodes : State Part → ℕ
state_nodes (want bound k) = stack_nodes k
state_nodes (named bound at n k) = suc (stack_nodes k)
state_nodes (titled bound h k) = suc (stack_nodes k)
state_nodes (bracketed bound at k) = suc (stack_nodes k)
state_nodes (braced bound at k) = suc (stack_nodes k)
state_nodes (have bound p q k) = part_nodes p + stack_nodes k
state_nodes (unsure bound at n op at' m k) = 0
state_nodes (infix_only r k) = 0

-- no more nodes than this
abbrev pub NextWithin : ℕ → Next Part → Type 0
NextWithin m (go_on s) = state_nodes s ≤ m
NextWithin m (finished p) = part_nodes p ≤ m
NextWithin m _ = Unit {0}

module _ (names vars : ℕ) where
  pub record IsFine (p : Part) : Type 0 where
    pub below : is_below vars (part_tree p) ≡ true
    pub known : is_known names (part_tree p) ≡ true

  abbrev pub AreFine : List Part → Type 0
  AreFine [] = Unit {0}
  AreFine (p ∷ ps) = IsFine p × AreFine ps

  abbrev pub IsHeadFine : Head → Type 0
  IsHeadFine (plain at n) = n < names
  IsHeadFine (brackets at) = Unit {0}
  IsHeadFine (braces at) = Unit {0}

  abbrev pub IsOpenFine : Open Part → Type 0
  IsOpenFine (group_open at) = Unit {0}
  IsOpenFine (curly_open at) = Unit {0}
  IsOpenFine (arguments_open h ps) = IsHeadFine h × AreFine ps
  IsOpenFine (items_open at ps) = AreFine ps
  IsOpenFine (tail_open at ps) = AreFine ps

  abbrev pub IsFrameFine : Frame Part → Type 0
  IsFrameFine (infix_frame b n q left) = (n < names) × IsFine left
  IsFrameFine (prefix_frame b at n q) = n < names
  IsFrameFine (open_frame b o) = IsOpenFine o

  abbrev pub IsStackFine : List (Frame Part) → Type 0
  IsStackFine [] = Unit {0}
  IsStackFine (f ∷ k) = IsFrameFine f × IsStackFine k

  abbrev pub IsStateFine : State Part → Type 0
  IsStateFine (want bound k) = IsStackFine k
  IsStateFine (named bound at n k) = (n < names) × IsStackFine k
  IsStateFine (titled bound h k) = IsHeadFine h × IsStackFine k
  IsStateFine (bracketed bound at k) = IsStackFine k
  IsStateFine (braced bound at k) = IsStackFine k
  IsStateFine (have bound p q k) = IsFine p × IsStackFine k
  IsStateFine (unsure bound at n op at' m k) = ⊥
  IsStateFine (infix_only r k) = ⊥

  abbrev pub IsNextFine : Next Part → Type 0
  IsNextFine (go_on s) = IsStateFine s
  IsNextFine (finished p) = IsFine p
  IsNextFine _ = Unit {0}

  abbrev pub IsValueFine : Value → Type 0
  IsValueFine (variable v) = v < vars
  IsValueFine (integer i) = Unit {0}
  IsValueFine (text codes) = Unit {0}

  abbrev pub IsTokenFine : Token → Type 0
  IsTokenFine (Leaf at v) = IsValueFine v
  IsTokenFine (Name at n) = n < names
  IsTokenFine _ = Unit {0}
