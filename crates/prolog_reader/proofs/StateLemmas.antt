-- What a state of the machine says of the token before it, and which marks complete a clause from there.
use Rattle.std.proofs.Common.{◌≡◌, ℕ, List, [], ◌∷◌, Option, Some, None, Bool, true, false, nat_le, refl, if◌then◌else◌}
use Rattle.prolog_grammar.specs.Token.{Token, Leaf, Joined, Name, Paren, Touching, ParenEnd, Bracket, BracketEnd, Brace, BraceEnd, Comma, Bar, End}
use Rattle.prolog_grammar.specs.Rules.{Infix, Prefix, Head, plain, Rules, taken, is_infix_alone}
use Rattle.prolog_grammar.specs.Fault.{is_name}
use Rattle.prolog_grammar.specs.Machine.{Open, group_open, curly_open, arguments_open, items_open, tail_open, Frame, infix_frame, prefix_frame, open_frame, State, want, named, titled, bracketed, braced, have, unsure, infix_only, Move, next, done, fault, Ended, closed, goes_on, wrong, ends, ended, end_text, take_or, step_want, step_have, step_titled, apply, only_infix, fork, then_want, step_prefix, step_apart, step_named, step_bracketed, step_braced, if_touching, step}

-- ---- after a name, and after another token or none

abbrev pub AfterName : {T : Type 0} → State T → Type 0
AfterName (want bound k) = Unit {0}
AfterName (named bound at n k) = Unit {0}
AfterName (unsure bound at n op at' m k) = Unit {0}
AfterName (infix_only r k) = Unit {0}
AfterName _ = ⊥

abbrev pub AfterOther : {T : Type 0} → State T → Type 0
AfterOther (want bound k) = Unit {0}
AfterOther (titled bound head k) = Unit {0}
AfterOther (bracketed bound at k) = Unit {0}
AfterOther (braced bound at k) = Unit {0}
AfterOther (have bound t p k) = Unit {0}
AfterOther _ = ⊥

abbrev pub After : {T : Type 0} → Bool → State T → Type 0
After true s = AfterName s
After false s = AfterOther s

-- a move by a token, which ends nothing where it is a name
abbrev pub Fits : {T : Type 0} → Bool → Move T → Type 0
Fits name (next s) = After name s
Fits name (done t) = name ≡ false
Fits name fault = Unit {0}

abbrev pub by : Token → Bool
by token = is_name token

want_after : {T : Type 0} (name : Bool) (bound : ℕ) (k : List (Frame T)) → After name (want bound k)
want_after true bound k = tt
want_after false bound k = tt

take_fits : {T : Type 0} (name : Bool) (o : Option (ℕ × Infix)) (bound : ℕ) (t : T) (k : List (Frame T)) (other : Move T) → Fits name other → Fits name (take_or o bound t k other)
take_fits name None bound t k other h = h
take_fits name (Some op) bound t k other h = want_after name op.1.right (infix_frame bound op.0 op.1.priority t ∷ k)

end_fits : {T : Type 0} (t : T) (token : Token) → Fits (by token) (end_text t token)
end_fits t (Leaf at v) = tt
end_fits t (Joined at i) = tt
end_fits t (Name at n) = tt
end_fits t (Paren at) = tt
end_fits t (Touching at) = tt
end_fits t ParenEnd = tt
end_fits t (Bracket at) = tt
end_fits t BracketEnd = tt
end_fits t (Brace at) = tt
end_fits t BraceEnd = tt
end_fits t Comma = tt
end_fits t Bar = tt
end_fits t End = refl

other_ended : {T : Type 0} (b : ℕ) (k : List (Frame T)) (e : Ended T) → Fits false (ended b k e)
other_ended b k (closed t) = tt
other_ended b k (goes_on o) = tt
other_ended b k wrong = tt

name_ended : {T : Type 0} (rules : Rules T) (b : ℕ) (k : List (Frame T)) (o : Open T) (t : T) (at n : ℕ) → Fits true (ended b k (ends rules o t (Name at n)))
name_ended rules b k (group_open a) t at n = tt
name_ended rules b k (curly_open a) t at n = tt
name_ended rules b k (arguments_open h ts) t at n = tt
name_ended rules b k (items_open a ts) t at n = tt
name_ended rules b k (tail_open a ts) t at n = tt

ended_fits : {T : Type 0} (rules : Rules T) (b : ℕ) (k : List (Frame T)) (o : Open T) (t : T) (token : Token) → Fits (by token) (ended b k (ends rules o t token))
ended_fits rules b k o t (Name at n) = name_ended rules b k o t at n
ended_fits rules b k o t (Leaf at v) = other_ended b k (ends rules o t (Leaf at v))
ended_fits rules b k o t (Joined at i) = other_ended b k (ends rules o t (Joined at i))
ended_fits rules b k o t (Paren at) = other_ended b k (ends rules o t (Paren at))
ended_fits rules b k o t (Touching at) = other_ended b k (ends rules o t (Touching at))
ended_fits rules b k o t ParenEnd = other_ended b k (ends rules o t ParenEnd)
ended_fits rules b k o t (Bracket at) = other_ended b k (ends rules o t (Bracket at))
ended_fits rules b k o t BracketEnd = other_ended b k (ends rules o t BracketEnd)
ended_fits rules b k o t (Brace at) = other_ended b k (ends rules o t (Brace at))
ended_fits rules b k o t BraceEnd = other_ended b k (ends rules o t BraceEnd)
ended_fits rules b k o t Comma = other_ended b k (ends rules o t Comma)
ended_fits rules b k o t Bar = other_ended b k (ends rules o t Bar)
ended_fits rules b k o t End = other_ended b k (ends rules o t End)

have_fits : {T : Type 0} (rules : Rules T) (k : List (Frame T)) (bound : ℕ) (t : T) (p : ℕ) (token : Token) → Fits (by token) (step_have rules k bound t p token)
have_fits rules [] bound t p token = take_fits (by token) (taken rules bound p token) bound t [] (end_text t token) (end_fits t token)
have_fits rules (infix_frame b n q left ∷ k) bound t p token =
    take_fits (by token) (taken rules bound p token) bound t (infix_frame b n q left ∷ k) (step_have rules k b (rules.infixed n left t) q token) (have_fits rules k b (rules.infixed n left t) q token)
have_fits rules (prefix_frame b at n q ∷ k) bound t p token =
    take_fits (by token) (taken rules bound p token) bound t (prefix_frame b at n q ∷ k) (step_have rules k b (rules.prefixed at n t) q token) (have_fits rules k b (rules.prefixed at n t) q token)
have_fits rules (open_frame b o ∷ k) bound t p token =
    take_fits (by token) (taken rules bound p token) bound t (open_frame b o ∷ k) (ended b k (ends rules o t token)) (ended_fits rules b k o t token)

want_fits : {T : Type 0} (rules : Rules T) (bound : ℕ) (k : List (Frame T)) (token : Token) → Fits (by token) (step_want rules bound k token)
want_fits rules bound k (Leaf at v) = tt
want_fits rules bound k (Joined at i) = tt
want_fits rules bound k (Name at n) = tt
want_fits rules bound k (Paren at) = tt
want_fits rules bound k (Touching at) = tt
want_fits rules bound k ParenEnd = tt
want_fits rules bound k (Bracket at) = tt
want_fits rules bound k BracketEnd = tt
want_fits rules bound k (Brace at) = tt
want_fits rules bound k BraceEnd = tt
want_fits rules bound k Comma = tt
want_fits rules bound k Bar = tt
want_fits rules bound k End = tt

if_fits : {T : Type 0} (name c : Bool) (m n : Move T) → Fits name m → Fits name n → Fits name (if c then m else n)
if_fits name true m n h k = h
if_fits name false m n h k = k

apply_fits : {T : Type 0} (rules : Rules T) (bound at n : ℕ) (op : Prefix) (k : List (Frame T)) (token : Token) → Fits (by token) (apply rules bound at n op k token)
apply_fits rules bound at n op k token =
    if_fits (by token) (nat_le op.priority bound) (step_want rules op.right (prefix_frame bound at n op.priority ∷ k) token) fault (want_fits rules op.right (prefix_frame bound at n op.priority ∷ k) token) tt

only_fits : {T : Type 0} (m : Move T) → Fits true (only_infix m)
only_fits (next (want r k)) = tt
only_fits (next (named bound at n k)) = tt
only_fits (next (titled bound head k)) = tt
only_fits (next (bracketed bound at k)) = tt
only_fits (next (braced bound at k)) = tt
only_fits (next (have bound t p k)) = tt
only_fits (next (unsure bound at n op at' m k)) = tt
only_fits (next (infix_only r k)) = tt
only_fits (done t) = tt
only_fits fault = tt

fork_fits : {T : Type 0} (can : Bool) (rules : Rules T) (k : List (Frame T)) (bound at n : ℕ) (op : Prefix) (at' m : ℕ) → Fits true (fork can rules k bound at n op at' m)
fork_fits true rules k bound at n op at' m = tt
fork_fits false rules k bound at n op at' m = only_fits (step_have rules k bound (rules.atom (plain at n)) 0 (Name at' m))

prefix_fits : {T : Type 0} (rules : Rules T) (k : List (Frame T)) (bound at n : ℕ) (op : Prefix) (token : Token) → Fits (by token) (step_prefix rules k bound at n op token)
prefix_fits rules k bound at n op (Name at' m) =
    if_fits true (is_infix_alone rules m) (fork (nat_le op.priority bound) rules k bound at n op at' m) (apply rules bound at n op k (Name at' m))
    (fork_fits (nat_le op.priority bound) rules k bound at n op at' m) (apply_fits rules bound at n op k (Name at' m))
prefix_fits rules k bound at n op (Leaf at' v) = apply_fits rules bound at n op k (Leaf at' v)
prefix_fits rules k bound at n op (Paren at') = apply_fits rules bound at n op k (Paren at')
prefix_fits rules k bound at n op (Bracket at') = apply_fits rules bound at n op k (Bracket at')
prefix_fits rules k bound at n op (Brace at') = apply_fits rules bound at n op k (Brace at')
prefix_fits rules k bound at n op (Joined at' i) = have_fits rules k bound (rules.atom (plain at n)) 0 (Joined at' i)
prefix_fits rules k bound at n op (Touching at') = have_fits rules k bound (rules.atom (plain at n)) 0 (Touching at')
prefix_fits rules k bound at n op ParenEnd = have_fits rules k bound (rules.atom (plain at n)) 0 ParenEnd
prefix_fits rules k bound at n op BracketEnd = have_fits rules k bound (rules.atom (plain at n)) 0 BracketEnd
prefix_fits rules k bound at n op BraceEnd = have_fits rules k bound (rules.atom (plain at n)) 0 BraceEnd
prefix_fits rules k bound at n op Comma = have_fits rules k bound (rules.atom (plain at n)) 0 Comma
prefix_fits rules k bound at n op Bar = have_fits rules k bound (rules.atom (plain at n)) 0 Bar
prefix_fits rules k bound at n op End = have_fits rules k bound (rules.atom (plain at n)) 0 End

apart_fits : {T : Type 0} (o : Option Prefix) (rules : Rules T) (k : List (Frame T)) (bound at n : ℕ) (token : Token) → Fits (by token) (step_apart o rules k bound at n token)
apart_fits None rules k bound at n token = have_fits rules k bound (rules.atom (plain at n)) 0 token
apart_fits (Some op) rules k bound at n token = prefix_fits rules k bound at n op token

named_fits : {T : Type 0} (rules : Rules T) (k : List (Frame T)) (bound at n : ℕ) (token : Token) → Fits (by token) (step_named rules k bound at n token)
named_fits rules k bound at n (Touching at') = tt
named_fits rules k bound at n (Joined at' i) = tt
named_fits rules k bound at n (Name at' m) = apart_fits (rules.prefixes n) rules k bound at n (Name at' m)
named_fits rules k bound at n (Leaf at' v) = apart_fits (rules.prefixes n) rules k bound at n (Leaf at' v)
named_fits rules k bound at n (Paren at') = apart_fits (rules.prefixes n) rules k bound at n (Paren at')
named_fits rules k bound at n (Bracket at') = apart_fits (rules.prefixes n) rules k bound at n (Bracket at')
named_fits rules k bound at n (Brace at') = apart_fits (rules.prefixes n) rules k bound at n (Brace at')
named_fits rules k bound at n ParenEnd = apart_fits (rules.prefixes n) rules k bound at n ParenEnd
named_fits rules k bound at n BracketEnd = apart_fits (rules.prefixes n) rules k bound at n BracketEnd
named_fits rules k bound at n BraceEnd = apart_fits (rules.prefixes n) rules k bound at n BraceEnd
named_fits rules k bound at n Comma = apart_fits (rules.prefixes n) rules k bound at n Comma
named_fits rules k bound at n Bar = apart_fits (rules.prefixes n) rules k bound at n Bar
named_fits rules k bound at n End = apart_fits (rules.prefixes n) rules k bound at n End

titled_fits : {T : Type 0} (rules : Rules T) (k : List (Frame T)) (bound : ℕ) (head : Head) (token : Token) → Fits (by token) (step_titled rules k bound head token)
titled_fits rules k bound head (Touching at) = tt
titled_fits rules k bound head (Name at n) = have_fits rules k bound (rules.atom head) 0 (Name at n)
titled_fits rules k bound head (Joined at i) = have_fits rules k bound (rules.atom head) 0 (Joined at i)
titled_fits rules k bound head (Leaf at v) = have_fits rules k bound (rules.atom head) 0 (Leaf at v)
titled_fits rules k bound head (Paren at) = have_fits rules k bound (rules.atom head) 0 (Paren at)
titled_fits rules k bound head (Bracket at) = have_fits rules k bound (rules.atom head) 0 (Bracket at)
titled_fits rules k bound head (Brace at) = have_fits rules k bound (rules.atom head) 0 (Brace at)
titled_fits rules k bound head ParenEnd = have_fits rules k bound (rules.atom head) 0 ParenEnd
titled_fits rules k bound head BracketEnd = have_fits rules k bound (rules.atom head) 0 BracketEnd
titled_fits rules k bound head BraceEnd = have_fits rules k bound (rules.atom head) 0 BraceEnd
titled_fits rules k bound head Comma = have_fits rules k bound (rules.atom head) 0 Comma
titled_fits rules k bound head Bar = have_fits rules k bound (rules.atom head) 0 Bar
titled_fits rules k bound head End = have_fits rules k bound (rules.atom head) 0 End

-- a token that is neither a closing bracket nor a closing brace, where that one may stand
bracketed_fits : {T : Type 0} (rules : Rules T) (k : List (Frame T)) (bound at : ℕ) (token : Token) → Fits (by token) (step_bracketed rules k bound at token)
bracketed_fits rules k bound at BracketEnd = tt
bracketed_fits rules k bound at (Name a n) = tt
bracketed_fits rules k bound at (Joined a i) = tt
bracketed_fits rules k bound at (Leaf a v) = tt
bracketed_fits rules k bound at (Paren a) = tt
bracketed_fits rules k bound at (Touching a) = tt
bracketed_fits rules k bound at (Bracket a) = tt
bracketed_fits rules k bound at (Brace a) = tt
bracketed_fits rules k bound at ParenEnd = tt
bracketed_fits rules k bound at BraceEnd = tt
bracketed_fits rules k bound at Comma = tt
bracketed_fits rules k bound at Bar = tt
bracketed_fits rules k bound at End = tt

braced_fits : {T : Type 0} (rules : Rules T) (k : List (Frame T)) (bound at : ℕ) (token : Token) → Fits (by token) (step_braced rules k bound at token)
braced_fits rules k bound at BraceEnd = tt
braced_fits rules k bound at (Name a n) = tt
braced_fits rules k bound at (Joined a i) = tt
braced_fits rules k bound at (Leaf a v) = tt
braced_fits rules k bound at (Paren a) = tt
braced_fits rules k bound at (Touching a) = tt
braced_fits rules k bound at (Bracket a) = tt
braced_fits rules k bound at (Brace a) = tt
braced_fits rules k bound at ParenEnd = tt
braced_fits rules k bound at BracketEnd = tt
braced_fits rules k bound at Comma = tt
braced_fits rules k bound at Bar = tt
braced_fits rules k bound at End = tt

then_fits : {T : Type 0} (rules : Rules T) (m : Move T) (token : Token) → Fits (by token) (then_want rules m token)
then_fits rules (next (want r k)) token = want_fits rules r k token
then_fits rules (next (named bound at n k)) token = tt
then_fits rules (next (titled bound head k)) token = tt
then_fits rules (next (bracketed bound at k)) token = tt
then_fits rules (next (braced bound at k)) token = tt
then_fits rules (next (have bound t p k)) token = tt
then_fits rules (next (unsure bound at n op at' m k)) token = tt
then_fits rules (next (infix_only r k)) token = tt
then_fits rules (done t) token = tt
then_fits rules fault token = tt

touching_fits : {T : Type 0} (token : Token) (there apart : Move T) → Fits false there → Fits (by token) apart → Fits (by token) (if_touching token there apart)
touching_fits (Touching at) there apart h k = h
touching_fits (Name a n) there apart h k = k
touching_fits (Joined a i) there apart h k = k
touching_fits (Leaf a v) there apart h k = k
touching_fits (Paren a) there apart h k = k
touching_fits (Bracket a) there apart h k = k
touching_fits (Brace a) there apart h k = k
touching_fits ParenEnd there apart h k = k
touching_fits BracketEnd there apart h k = k
touching_fits BraceEnd there apart h k = k
touching_fits Comma there apart h k = k
touching_fits Bar there apart h k = k
touching_fits End there apart h k = k

pub step_fits : {T : Type 0} (rules : Rules T) (s : State T) (token : Token) → Fits (by token) (step rules s token)
step_fits rules (want bound k) token = want_fits rules bound k token
step_fits rules (named bound at n k) token = named_fits rules k bound at n token
step_fits rules (titled bound head k) token = titled_fits rules k bound head token
step_fits rules (bracketed bound at k) token = bracketed_fits rules k bound at token
step_fits rules (braced bound at k) token = braced_fits rules k bound at token
step_fits rules (have bound t p k) token = have_fits rules k bound t p token
step_fits rules (unsure bound at n op at' m k) token =
    touching_fits token _ _ tt (then_fits rules (step_have rules k bound (rules.atom (plain at n)) 0 (Name at' m)) token)
step_fits rules (infix_only r k) token = touching_fits token fault (step_want rules r k token) tt (want_fits rules r k token)
