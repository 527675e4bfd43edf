-- Private.
-- The machine as the code has it: it knows whether a parenthesis touches the token at hand, and tests the depth rule in
-- the same step.
--
-- Letters: as in `Machine`.
--
-- Nothing here has to be believed: the laws say that it answers what the machine of the laws answers.
use Rattle.std.specs.Prelude.{ℕ, nat_le, List, [], ◌∷◌, Option, Some, None, Ok, Err, Bool, true, false, if◌then◌else◌}
use Rattle.prolog_grammar.specs.Token.{Token, Leaf, Joined, Name, Paren, Touching, Bracket, BracketEnd, Brace, BraceEnd, End, touches}
use Rattle.prolog_grammar.specs.Rules.{Infix, Prefix, Head, plain, brackets, braces, Rules, taken, is_infix_alone}
use Rattle.prolog_grammar.specs.Depth.{too_deep}
use Rattle.prolog_grammar.specs.Fault.{unexpected, deep, Verdict}
use Rattle.prolog_grammar.specs.Machine.{curly_open, arguments_open, items_open, inside, Frame, infix_frame, prefix_frame, open_frame, State, want, named, titled, bracketed, braced, have, unsure, infix_only, Move, next, done, fault, Ended, closed, goes_on, wrong, ends, step, step_want}
use Rattle.prolog_grammar.specs.Run.{height, want_load, load}

-- where a token leads
pub data Next (T : Type 0) : Type 0 where
  go_on : State T → Next T
  -- the token is expected, and no token after it is
  stuck : Next T
  finished : T → Next T
  unexpected_here : Next T
  deep_here : Next T

-- a move by a token that is too deep or not
abbrev pub judged : {T : Type 0} → Move T → Bool → Next T
judged fault over = unexpected_here
judged (next s) false = go_on s
judged (done t) false = finished t
judged _ true = deep_here

-- a token where an operand begins
abbrev pub walk_want : {T : Type 0} → ℕ → Rules T → ℕ → List (Frame T) → Token → Next T
walk_want limit rules bound k token = judged (step_want rules bound k token) (too_deep limit (want_load (height k) token))

-- an operator is taken, if its left side is not too deep, or else the other
abbrev pub walk_take : {T : Type 0} → Option (ℕ × Infix) → Bool → ℕ → T → List (Frame T) → Next T → Next T
walk_take None over bound t k other = other
walk_take (Some op) true bound t k other = deep_here
walk_take (Some op) false bound t k other = go_on (want op.1.right (infix_frame bound op.0 op.1.priority t ∷ k))

-- a term inside an opening token, and the token after it
abbrev pub walk_ended : {T : Type 0} → ℕ → List (Frame T) → Ended T → Next T
walk_ended b k (closed t) = go_on (have b t 0 k)
walk_ended b k (goes_on o) = go_on (want (inside o) (open_frame b o ∷ k))
walk_ended b k wrong = unexpected_here

-- a term with nothing open is a clause where End follows
abbrev pub walk_text : {T : Type 0} → T → Token → Next T
walk_text t End = finished t
walk_text t _ = unexpected_here

-- a token after a term
abbrev pub walk_have : {T : Type 0} → ℕ → Rules T → List (Frame T) → ℕ → T → ℕ → Token → Next T
walk_have limit rules [] bound t p token =
    walk_take (taken rules bound p token) (nat_le limit (rules.depth t)) bound t [] (walk_text t token)
walk_have limit rules (infix_frame b n q left ∷ k) bound t p token =
    walk_take (taken rules bound p token) (nat_le limit (rules.depth t)) bound t (infix_frame b n q left ∷ k)
    (walk_have limit rules k b (rules.infixed n left t) q token)
walk_have limit rules (prefix_frame b at n q ∷ k) bound t p token =
    walk_take (taken rules bound p token) (nat_le limit (rules.depth t)) bound t (prefix_frame b at n q ∷ k)
    (walk_have limit rules k b (rules.prefixed at n t) q token)
walk_have limit rules (open_frame b o ∷ k) bound t p token =
    walk_take (taken rules bound p token) (nat_le limit (rules.depth t)) bound t (open_frame b o ∷ k) (walk_ended b k (ends rules o t token))

-- a prefix operator that is applied
abbrev pub walk_apply : {T : Type 0} → ℕ → Rules T → ℕ → ℕ → ℕ → Prefix → List (Frame T) → Token → Next T
walk_apply limit rules bound at n op k token =
    if nat_le op.priority bound then walk_want limit rules op.right (prefix_frame bound at n op.priority ∷ k) token else unexpected_here

-- where the operator could have been applied, if a parenthesis had touched the name after it
abbrev pub or_stuck : {T : Type 0} → Bool → Next T → Next T
or_stuck true unexpected_here = stuck
or_stuck _ found = found

-- where the name after it would have been an infix operator, if no parenthesis had touched it
abbrev pub only_stuck : {T : Type 0} → Next T → Next T
only_stuck unexpected_here = unexpected_here
only_stuck _ = stuck

-- a prefix operator that can be applied or not, and a name that is an infix operator alone, which a parenthesis touches
-- or not
abbrev pub walk_fork : {T : Type 0} → Bool → Bool → ℕ → Rules T → List (Frame T) → ℕ → ℕ → ℕ → Prefix → ℕ → ℕ → Next T
walk_fork true true limit rules k bound at n op at' m = walk_want limit rules op.right (prefix_frame bound at n op.priority ∷ k) (Name at' m)
walk_fork false true limit rules k bound at n op at' m = only_stuck (walk_have limit rules k bound (rules.atom (plain at n)) 0 (Name at' m))
walk_fork can false limit rules k bound at n op at' m = or_stuck can (walk_have limit rules k bound (rules.atom (plain at n)) 0 (Name at' m))

-- a token after a prefix operator
abbrev pub walk_prefix : {T : Type 0} → ℕ → Rules T → List (Frame T) → ℕ → ℕ → ℕ → Prefix → Token → Bool → Next T
walk_prefix limit rules k bound at n op (Name at' m) touch =
    if is_infix_alone rules m
    then walk_fork (nat_le op.priority bound) touch limit rules k bound at n op at' m
    else walk_apply limit rules bound at n op k (Name at' m)
walk_prefix limit rules k bound at n op (Leaf at' v) touch = walk_apply limit rules bound at n op k (Leaf at' v)
walk_prefix limit rules k bound at n op (Paren at') touch = walk_apply limit rules bound at n op k (Paren at')
walk_prefix limit rules k bound at n op (Bracket at') touch = walk_apply limit rules bound at n op k (Bracket at')
walk_prefix limit rules k bound at n op (Brace at') touch = walk_apply limit rules bound at n op k (Brace at')
walk_prefix limit rules k bound at n op token touch = walk_have limit rules k bound (rules.atom (plain at n)) 0 token

-- a token after a name to which it does not cling
abbrev pub walk_apart : {T : Type 0} → Option Prefix → ℕ → Rules T → List (Frame T) → ℕ → ℕ → ℕ → Token → Bool → Next T
walk_apart None limit rules k bound at n token touch = walk_have limit rules k bound (rules.atom (plain at n)) 0 token
walk_apart (Some op) limit rules k bound at n token touch = walk_prefix limit rules k bound at n op token touch

-- a token after a name
abbrev pub walk_named : {T : Type 0} → ℕ → Rules T → List (Frame T) → ℕ → ℕ → ℕ → Token → Bool → Next T
walk_named limit rules k bound at n (Touching at') touch = go_on (want 999 (open_frame bound (arguments_open (plain at n) []) ∷ k))
walk_named limit rules k bound at n (Joined at' i) touch = go_on (have bound (rules.negative at i) 0 k)
walk_named limit rules k bound at n token touch = walk_apart (rules.prefixes n) limit rules k bound at n token touch

-- a token after [] or {}
abbrev pub walk_titled : {T : Type 0} → ℕ → Rules T → List (Frame T) → ℕ → Head → Token → Next T
walk_titled limit rules k bound h (Touching at) = go_on (want 999 (open_frame bound (arguments_open h []) ∷ k))
walk_titled limit rules k bound h token = walk_have limit rules k bound (rules.atom h) 0 token

-- a token after an opening bracket
abbrev pub walk_bracketed : {T : Type 0} → ℕ → Rules T → List (Frame T) → ℕ → ℕ → Token → Next T
walk_bracketed limit rules k bound at BracketEnd = go_on (titled bound (brackets at) k)
walk_bracketed limit rules k bound at token = walk_want limit rules 999 (open_frame bound (items_open at []) ∷ k) token

-- a token after an opening brace
abbrev pub walk_braced : {T : Type 0} → ℕ → Rules T → List (Frame T) → ℕ → ℕ → Token → Next T
walk_braced limit rules k bound at BraceEnd = go_on (titled bound (braces at) k)
walk_braced limit rules k bound at token = walk_want limit rules 1200 (open_frame bound (curly_open at) ∷ k) token

-- a token in a state; the code never enters the last two
abbrev pub walk_step : {T : Type 0} → ℕ → Rules T → State T → Token → Bool → Next T
walk_step limit rules (want bound k) token touch = walk_want limit rules bound k token
walk_step limit rules (named bound at n k) token touch = walk_named limit rules k bound at n token touch
walk_step limit rules (titled bound h k) token touch = walk_titled limit rules k bound h token
walk_step limit rules (bracketed bound at k) token touch = walk_bracketed limit rules k bound at token
walk_step limit rules (braced bound at k) token touch = walk_braced limit rules k bound at token
walk_step limit rules (have bound t p k) token touch = walk_have limit rules k bound t p token
walk_step limit rules (unsure bound at n op at' m k) token touch =
    judged (step rules (unsure bound at n op at' m k) token) (too_deep limit (load rules (unsure bound at n op at' m k) token touch))
walk_step limit rules (infix_only r k) token touch = judged (step rules (infix_only r k) token) (too_deep limit (load rules (infix_only r k) token touch))

-- what comes of it
abbrev pub walked : {T : Type 0} → Next T → (State T → Verdict T) → List Token → List Token → Verdict T
walked (go_on s) later here rest = later s
walked stuck later here rest = Err (unexpected rest)
walked (finished t) later here rest = Ok (t, rest)
walked unexpected_here later here rest = Err (unexpected here)
walked deep_here later here rest = Err (deep here)

-- the whole run from a state
unfoldable pub walk : {T : Type 0} → ℕ → Rules T → State T → List Token → Verdict T
walk limit rules s [] = Err (unexpected [])
walk limit rules s (token ∷ rest) =
    walked (walk_step limit rules s token (touches rest)) (λ s'. walk limit rules s' rest) (token ∷ rest) rest

-- the same verdict over other trees
abbrev pub verdict_map : {S T : Type 0} → (S → T) → Verdict S → Verdict T
verdict_map f (Ok x) = Ok (f x.0, x.1)
verdict_map f (Err e) = Err e
