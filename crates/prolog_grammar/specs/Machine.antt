-- Private.
-- The reader as a machine with a stack of what is open, which takes a token at a time. The laws are proved on it.
--
-- Letters: us and rest are tokens, t is a term, p its priority, k the stack, r and b are bounds, n and m names, `at` a
-- place.
--
-- Nothing here has to be believed: the laws say that it reads what the grammar reads.
use Rattle.std.specs.Prelude.{ℕ, List, [], ◌∷◌, ◌++◌, Option, Some, None, Result, Ok, Err, nat_le, Bool, true, false, if◌then◌else◌}
use Rattle.prolog_grammar.specs.Token.{integer, Token, Leaf, Joined, Name, Paren, Touching, ParenEnd, Bracket, BracketEnd, Brace, BraceEnd, Comma, Bar, End}
use Rattle.prolog_grammar.specs.Rules.{Infix, Prefix, Head, plain, brackets, braces, Rules, taken, is_infix_alone}

-- an opening token, and what is read between it and the term under way: the name and arguments, or a list's elements
pub data Open (T : Type 0) : Type 0 where
  group_open : ℕ → Open T
  curly_open : ℕ → Open T
  arguments_open : Head → List T → Open T
  items_open : ℕ → List T → Open T
  tail_open : ℕ → List T → Open T

-- the bound of a term inside it
abbrev pub inside : {T : Type 0} → Open T → ℕ
inside (group_open at) = 1200
inside (curly_open at) = 1200
inside (arguments_open h ts) = 999
inside (items_open at ts) = 999
inside (tail_open at ts) = 999

-- what is open, with the bound of the term round it: an infix operator with its priority and left side, a prefix
-- operator with its place and priority, or an opening token
pub data Frame (T : Type 0) : Type 0 where
  infix_frame : ℕ → ℕ → ℕ → T → Frame T
  prefix_frame : ℕ → ℕ → ℕ → ℕ → Frame T
  open_frame : ℕ → Open T → Frame T

-- what the machine has read, and what it waits for
pub data State (T : Type 0) : Type 0 where
  -- an operand begins here
  want : ℕ → List (Frame T) → State T
  -- a name, which the next token decides
  named : ℕ → ℕ → ℕ → List (Frame T) → State T
  -- [] or {}, which the next token decides
  titled : ℕ → Head → List (Frame T) → State T
  -- an opening bracket, an opening brace, which may be closed at once
  bracketed : ℕ → ℕ → List (Frame T) → State T
  braced : ℕ → ℕ → List (Frame T) → State T
  -- a term was read, which an operator may follow
  have : ℕ → T → ℕ → List (Frame T) → State T
  -- a prefix operator that can be applied, and a name that is an infix operator alone, which the next token decides
  unsure : ℕ → ℕ → ℕ → Prefix → ℕ → ℕ → List (Frame T) → State T
  -- an infix operator was taken, which no parenthesis may touch
  infix_only : ℕ → List (Frame T) → State T

-- where a token leads: to a state, to the end of a clause, or nowhere
pub data Move (T : Type 0) : Type 0 where
  next : State T → Move T
  done : T → Move T
  fault : Move T

-- a token where an operand begins
abbrev pub step_want : {T : Type 0} → Rules T → ℕ → List (Frame T) → Token → Move T
step_want rules bound k (Leaf at v) = next (have bound (rules.leaf at v) 0 k)
step_want rules bound k (Joined at i) = next (have bound (rules.leaf at (integer i)) 0 k)
step_want rules bound k (Name at n) = next (named bound at n k)
step_want rules bound k (Paren at) = next (want 1200 (open_frame bound (group_open at) ∷ k))
step_want rules bound k (Touching at) = next (want 1200 (open_frame bound (group_open at) ∷ k))
step_want rules bound k (Bracket at) = next (bracketed bound at k)
step_want rules bound k (Brace at) = next (braced bound at k)
step_want rules bound k _ = fault

-- an operator is taken, or else the other move is made
abbrev pub take_or : {T : Type 0} → Option (ℕ × Infix) → ℕ → T → List (Frame T) → Move T → Move T
take_or None bound t k other = other
take_or (Some op) bound t k other = next (want op.1.right (infix_frame bound op.0 op.1.priority t ∷ k))

-- a term with nothing open is a clause where End follows
abbrev pub end_text : {T : Type 0} → T → Token → Move T
end_text t End = done t
end_text t _ = fault

-- what a term inside an opening token and the token after it make: a whole operand, more of the same, or nothing
pub data Ended (T : Type 0) : Type 0 where
  closed : T → Ended T
  goes_on : Open T → Ended T
  wrong : Ended T

-- the token after a term inside an opening token
abbrev pub ends : {T : Type 0} → Rules T → Open T → T → Token → Ended T
ends rules (group_open at) t ParenEnd = closed (rules.grouped at t)
ends rules (curly_open at) t BraceEnd = closed (rules.curled at t)
ends rules (arguments_open h ts) t ParenEnd = closed (rules.call h (ts ++ t ∷ []))
ends rules (arguments_open h ts) t Comma = goes_on (arguments_open h (ts ++ t ∷ []))
ends rules (items_open at ts) t BracketEnd = closed (rules.listed at (ts ++ t ∷ []) None)
ends rules (items_open at ts) t Comma = goes_on (items_open at (ts ++ t ∷ []))
ends rules (items_open at ts) t Bar = goes_on (tail_open at (ts ++ t ∷ []))
ends rules (tail_open at ts) t BracketEnd = closed (rules.listed at ts (Some t))
ends rules _ t _ = wrong

-- where that leads
abbrev pub ended : {T : Type 0} → ℕ → List (Frame T) → Ended T → Move T
ended b k (closed t) = next (have b t 0 k)
ended b k (goes_on o) = next (want (inside o) (open_frame b o ∷ k))
ended b k wrong = fault

-- a token after a term: an operator that is taken, or else the term is at its end
abbrev pub step_have : {T : Type 0} → Rules T → List (Frame T) → ℕ → T → ℕ → Token → Move T
step_have rules [] bound t p token = take_or (taken rules bound p token) bound t [] (end_text t token)
step_have rules (infix_frame b n q left ∷ k) bound t p token =
    take_or (taken rules bound p token) bound t (infix_frame b n q left ∷ k) (step_have rules k b (rules.infixed n left t) q token)
step_have rules (prefix_frame b at n q ∷ k) bound t p token =
    take_or (taken rules bound p token) bound t (prefix_frame b at n q ∷ k) (step_have rules k b (rules.prefixed at n t) q token)
step_have rules (open_frame b o ∷ k) bound t p token =
    take_or (taken rules bound p token) bound t (open_frame b o ∷ k) (ended b k (ends rules o t token))

-- a token after [] or {}
abbrev pub step_titled : {T : Type 0} → Rules T → List (Frame T) → ℕ → Head → Token → Move T
step_titled rules k bound h (Touching at) = next (want 999 (open_frame bound (arguments_open h []) ∷ k))
step_titled rules k bound h token = step_have rules k bound (rules.atom h) 0 token

-- a prefix operator that is applied
abbrev pub apply : {T : Type 0} → Rules T → ℕ → ℕ → ℕ → Prefix → List (Frame T) → Token → Move T
apply rules bound at n op k token = if nat_le op.priority bound then step_want rules op.right (prefix_frame bound at n op.priority ∷ k) token else fault

-- an infix operator after a prefix operator that can only be an atom
abbrev pub only_infix : {T : Type 0} → Move T → Move T
only_infix (next (want r k)) = next (infix_only r k)
only_infix _ = fault

-- a prefix operator and a name that is an infix operator alone
abbrev pub fork : {T : Type 0} → Bool → Rules T → List (Frame T) → ℕ → ℕ → ℕ → Prefix → ℕ → ℕ → Move T
fork true rules k bound at n op at' m = next (unsure bound at n op at' m k)
fork false rules k bound at n op at' m = only_infix (step_have rules k bound (rules.atom (plain at n)) 0 (Name at' m))

-- the token after an infix operator
abbrev pub then_want : {T : Type 0} → Rules T → Move T → Token → Move T
then_want rules (next (want r k)) token = step_want rules r k token
then_want rules _ token = fault

-- a prefix operator, and the token after it that does not cling to it
abbrev pub step_prefix : {T : Type 0} → Rules T → List (Frame T) → ℕ → ℕ → ℕ → Prefix → Token → Move T
step_prefix rules k bound at n op (Name at' m) =
    if is_infix_alone rules m
    then fork (nat_le op.priority bound) rules k bound at n op at' m
    else apply rules bound at n op k (Name at' m)
step_prefix rules k bound at n op (Leaf at' v) = apply rules bound at n op k (Leaf at' v)
step_prefix rules k bound at n op (Paren at') = apply rules bound at n op k (Paren at')
step_prefix rules k bound at n op (Bracket at') = apply rules bound at n op k (Bracket at')
step_prefix rules k bound at n op (Brace at') = apply rules bound at n op k (Brace at')
step_prefix rules k bound at n op token = step_have rules k bound (rules.atom (plain at n)) 0 token

-- a name, and the token after it that does not cling to it
abbrev pub step_apart : {T : Type 0} → Option Prefix → Rules T → List (Frame T) → ℕ → ℕ → ℕ → Token → Move T
step_apart None rules k bound at n token = step_have rules k bound (rules.atom (plain at n)) 0 token
step_apart (Some op) rules k bound at n token = step_prefix rules k bound at n op token

-- a name, and the token after it
abbrev pub step_named : {T : Type 0} → Rules T → List (Frame T) → ℕ → ℕ → ℕ → Token → Move T
step_named rules k bound at n (Touching at') = next (want 999 (open_frame bound (arguments_open (plain at n) []) ∷ k))
step_named rules k bound at n (Joined at' i) = next (have bound (rules.negative at i) 0 k)
step_named rules k bound at n token = step_apart (rules.prefixes n) rules k bound at n token

-- a token after an opening bracket
abbrev pub step_bracketed : {T : Type 0} → Rules T → List (Frame T) → ℕ → ℕ → Token → Move T
step_bracketed rules k bound at BracketEnd = next (titled bound (brackets at) k)
step_bracketed rules k bound at token = step_want rules 999 (open_frame bound (items_open at []) ∷ k) token

-- a token after an opening brace
abbrev pub step_braced : {T : Type 0} → Rules T → List (Frame T) → ℕ → ℕ → Token → Move T
step_braced rules k bound at BraceEnd = next (titled bound (braces at) k)
step_braced rules k bound at token = step_want rules 1200 (open_frame bound (curly_open at) ∷ k) token

-- whether a parenthesis touches the name before it decides
abbrev pub if_touching : {T : Type 0} → Token → Move T → Move T → Move T
if_touching (Touching at) there apart = there
if_touching _ there apart = apart

-- a token in a state
abbrev pub step : {T : Type 0} → Rules T → State T → Token → Move T
step rules (want bound k) token = step_want rules bound k token
step rules (named bound at n k) token = step_named rules k bound at n token
step rules (titled bound h k) token = step_titled rules k bound h token
step rules (bracketed bound at k) token = step_bracketed rules k bound at token
step rules (braced bound at k) token = step_braced rules k bound at token
step rules (have bound t p k) token = step_have rules k bound t p token
step rules (unsure bound at n op at' m k) token =
    if_touching token
    (next (want 999 (open_frame op.right (arguments_open (plain at' m) []) ∷ prefix_frame bound at n op.priority ∷ k)))
    (then_want rules (step_have rules k bound (rules.atom (plain at n)) 0 (Name at' m)) token)
step rules (infix_only r k) token = if_touching token fault (step_want rules r k token)

-- the term and what follows its End, or the tokens from the first unexpected one on
abbrev pub Outcome : Type 0 → Type 0
Outcome T = Result (T × List Token) (List Token)

-- what comes of a move
abbrev pub moved : {T : Type 0} → Move T → (State T → Outcome T) → List Token → List Token → Outcome T
moved (next s) go_on here rest = go_on s
moved (done t) go_on here rest = Ok (t, rest)
moved fault go_on here rest = Err here

-- the whole run from a state
unfoldable pub go : {T : Type 0} → Rules T → State T → List Token → Outcome T
go rules s [] = Err []
go rules s (token ∷ rest) = moved (step rules s token) (λ s'. go rules s' rest) (token ∷ rest) rest

-- before the first token of a clause
abbrev pub start : {T : Type 0} → State T
start = want 1200 []
