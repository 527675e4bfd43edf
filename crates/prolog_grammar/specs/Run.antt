-- Private.
-- The machine of the laws with the depth rule: what each token does in each state, by the openers that are open there.
--
-- Letters: as in `Machine`; h is a number of openers, d a depth.
--
-- Nothing here has to be believed: the laws say that it keeps the rule.
use Rattle.std.specs.Prelude.{ℕ, suc, nat_le, List, [], ◌∷◌, Option, Some, None, Ok, Err, Bool, true, false, if◌then◌else◌}
use Rattle.prolog_grammar.specs.Token.{Token, Leaf, Joined, Name, Paren, Touching, Bracket, BracketEnd, Brace, BraceEnd, touches}
use Rattle.prolog_grammar.specs.Rules.{Infix, Prefix, Head, plain, Rules, taken, is_infix_alone}
use Rattle.prolog_grammar.specs.Depth.{Load, quiet, operand, operator, value_load, too_deep}
use Rattle.prolog_grammar.specs.Fault.{unexpected, deep, Verdict}
use Rattle.prolog_grammar.specs.Machine.{Open, group_open, curly_open, arguments_open, items_open, tail_open, Frame, infix_frame, prefix_frame, open_frame, State, want, named, titled, bracketed, braced, have, unsure, infix_only, Move, next, done, fault, step, step_have}

-- the openers with these elements of a list, each with its comma or bar
abbrev pub items_past : {T : Type 0} → List T → ℕ → ℕ
items_past [] h = h
items_past (t ∷ ts) h = items_past ts (suc h)

-- the openers inside an opening token that stands under h
abbrev pub inside_height : {T : Type 0} → Open T → ℕ → ℕ
inside_height (group_open at) h = suc h
inside_height (curly_open at) h = suc h
inside_height (arguments_open head ts) h = suc h
inside_height (items_open at ts) h = items_past ts (suc h)
inside_height (tail_open at ts) h = items_past ts (suc h)

-- how many openers are open
abbrev pub height : {T : Type 0} → List (Frame T) → ℕ
height [] = 0
height (infix_frame b n q left ∷ k) = suc (height k)
height (prefix_frame b at n q ∷ k) = suc (height k)
height (open_frame b o ∷ k) = inside_height o (height k)

-- a token where an operand begins under h openers
abbrev pub want_load : ℕ → Token → Load
want_load h (Leaf at v) = value_load h v
want_load h (Joined at i) = operand h
want_load h (Name at n) = operand h
want_load h (Paren at) = operand h
want_load h (Touching at) = operand h
want_load h (Bracket at) = operand h
want_load h (Brace at) = operand h
want_load h _ = quiet

-- an operator after a term of that depth, or else the other
abbrev pub load_or : Option (ℕ × Infix) → ℕ → Load → Load
load_or None d other = other
load_or (Some op) d other = operator d

-- a token after a term
abbrev pub have_load : {T : Type 0} → Rules T → List (Frame T) → ℕ → T → ℕ → Token → Load
have_load rules [] bound t p token = load_or (taken rules bound p token) (rules.depth t) quiet
have_load rules (infix_frame b n q left ∷ k) bound t p token =
    load_or (taken rules bound p token) (rules.depth t) (have_load rules k b (rules.infixed n left t) q token)
have_load rules (prefix_frame b at n q ∷ k) bound t p token =
    load_or (taken rules bound p token) (rules.depth t) (have_load rules k b (rules.prefixed at n t) q token)
have_load rules (open_frame b o ∷ k) bound t p token = load_or (taken rules bound p token) (rules.depth t) quiet

-- a name that is an infix operator alone, after a prefix operator: where a parenthesis touches it, it begins an
-- operand, if the prefix operator can be applied
abbrev pub fork_load : Bool → Bool → ℕ → Load → Load
fork_load can false h apart = apart
fork_load true true h apart = operand h
fork_load false true h apart = quiet

-- a token after a prefix operator
abbrev pub prefix_load : {T : Type 0} → Rules T → List (Frame T) → ℕ → ℕ → ℕ → Prefix → Token → Bool → Load
prefix_load rules k bound at n op (Name at' m) touch =
    if is_infix_alone rules m
    then fork_load (nat_le op.priority bound) touch (suc (height k)) (have_load rules k bound (rules.atom (plain at n)) 0 (Name at' m))
    else operand (suc (height k))
prefix_load rules k bound at n op (Leaf at' v) touch = value_load (suc (height k)) v
prefix_load rules k bound at n op (Paren at') touch = operand (suc (height k))
prefix_load rules k bound at n op (Bracket at') touch = operand (suc (height k))
prefix_load rules k bound at n op (Brace at') touch = operand (suc (height k))
prefix_load rules k bound at n op token touch = have_load rules k bound (rules.atom (plain at n)) 0 token

-- a token after a name to which it does not cling
abbrev pub apart_load : {T : Type 0} → Option Prefix → Rules T → List (Frame T) → ℕ → ℕ → ℕ → Token → Bool → Load
apart_load None rules k bound at n token touch = have_load rules k bound (rules.atom (plain at n)) 0 token
apart_load (Some op) rules k bound at n token touch = prefix_load rules k bound at n op token touch

-- a token after a name
abbrev pub named_load : {T : Type 0} → Rules T → List (Frame T) → ℕ → ℕ → ℕ → Token → Bool → Load
named_load rules k bound at n (Touching at') touch = quiet
named_load rules k bound at n (Joined at' i) touch = quiet
named_load rules k bound at n token touch = apart_load (rules.prefixes n) rules k bound at n token touch

-- a token after [] or {}
abbrev pub titled_load : {T : Type 0} → Rules T → List (Frame T) → ℕ → Head → Token → Load
titled_load rules k bound head (Touching at) = quiet
titled_load rules k bound head token = have_load rules k bound (rules.atom head) 0 token

-- a token after an opening bracket under h openers
abbrev pub bracketed_load : ℕ → Token → Load
bracketed_load h BracketEnd = quiet
bracketed_load h token = want_load (suc h) token

-- a token after an opening brace under h openers
abbrev pub braced_load : ℕ → Token → Load
braced_load h BraceEnd = quiet
braced_load h token = want_load (suc h) token

-- a token after an operator was taken
abbrev pub move_load : {T : Type 0} → Move T → Token → Load
move_load (next (want r k)) token = want_load (height k) token
move_load _ token = quiet

-- a parenthesis that touches does nothing
abbrev pub unless_touching : Token → Load → Load
unless_touching (Touching at) apart = quiet
unless_touching _ apart = apart

-- what a token does in a state, where a parenthesis touches the token or none does
abbrev pub load : {T : Type 0} → Rules T → State T → Token → Bool → Load
load rules (want bound k) token touch = want_load (height k) token
load rules (named bound at n k) token touch = named_load rules k bound at n token touch
load rules (titled bound head k) token touch = titled_load rules k bound head token
load rules (bracketed bound at k) token touch = bracketed_load (height k) token
load rules (braced bound at k) token touch = braced_load (height k) token
load rules (have bound t p k) token touch = have_load rules k bound t p token
load rules (unsure bound at n op at' m k) token touch =
    unless_touching token (move_load (step_have rules k bound (rules.atom (plain at n)) 0 (Name at' m)) token)
load rules (infix_only r k) token touch = unless_touching token (want_load (height k) token)

-- what comes of a move by a token that is too deep or not
abbrev pub checked : {T : Type 0} → Move T → Bool → (State T → Verdict T) → List Token → List Token → Verdict T
checked fault over go_on here rest = Err (unexpected here)
checked (next s) false go_on here rest = go_on s
checked (done t) false go_on here rest = Ok (t, rest)
checked _ true go_on here rest = Err (deep here)

-- the whole run from a state
unfoldable pub run : {T : Type 0} → ℕ → Rules T → State T → List Token → Verdict T
run limit rules s [] = Err (unexpected [])
run limit rules s (token ∷ rest) =
    checked (step rules s token) (too_deep limit (load rules s token (touches rest))) (λ s'. run limit rules s' rest) (token ∷ rest) rest
