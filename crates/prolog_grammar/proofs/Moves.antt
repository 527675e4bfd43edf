-- One move of the machine.
use Rattle.std.proofs.Common.{◌≡◌, ℕ, List, [], ◌∷◌, Option, Some, None, Ok, Bool, true, false, ◌&&◌, nat_le, refl, ap, ◌⊎◌, inl, inr}
use Rattle.prolog_grammar.specs.Token.{Token, Joined, Name, Touching, BracketEnd, BraceEnd, touches, clings}
use Rattle.prolog_grammar.specs.Rules.{Infix, Prefix, Head, plain, Rules, taken, taken_first, is_infix_alone}
use Rattle.prolog_grammar.specs.Machine.{Open, group_open, curly_open, arguments_open, items_open, tail_open, Frame, infix_frame, prefix_frame, open_frame, State, want, named, titled, bracketed, braced, have, unsure, infix_only, Move, next, fault, wrong, ends, ended, fork, apply, take_or, step, step_have, moved, go}

pub and_true : (a b : Bool) → (a && b) ≡ true → (a ≡ true) × (b ≡ true)
and_true true b h = (refl, h)
and_true false b h = cc

pub go_step : {T : Type 0} (rules : Rules T) (s : State T) (token : Token) (us : List Token)
    → go rules s (token ∷ us) ≡ moved (step rules s token) (λ s'. go rules s' us) (token ∷ us) us
unfolding go
go_step rules s token us = refl

-- a step of the machine, where the move is known
pub go-next : {T : Type 0} (rules : Rules T) (s s' : State T) (token : Token) (us : List Token) → step rules s token ≡ next s'
    → go rules s (token ∷ us) ≡ go rules s' us
unfolding go
go-next rules s s' token us h = rw h refl

pub go-same : {T : Type 0} (rules : Rules T) (s s' : State T) (token : Token) (us : List Token) → step rules s token ≡ step rules s' token
    → go rules s (token ∷ us) ≡ go rules s' (token ∷ us)
unfolding go
go-same rules s s' token us h = ap (λ m. moved m (λ s''. go rules s'' us) (token ∷ us) us) h

pub not_fault : {T : Type 0} (rules : Rules T) (s : State T) (token : Token) (us : List Token) (x : T × List Token) → step rules s token ≡ fault
    → go rules s (token ∷ us) ≡ Ok x → ⊥
unfolding go
not_fault rules s token us x e h = let f = rw e at h in cc

-- the end of the text is not an end
pub no_end : {T : Type 0} (rules : Rules T) (s : State T) (r : T × List Token) → go rules s [] ≡ Ok r → ⊥
unfolding go
no_end rules s r h = cc

-- an operator that can be taken is taken, whatever is open
pub step_have_taken : {T : Type 0} (rules : Rules T) (k : List (Frame T)) (bound : ℕ) (t : T) (p : ℕ) (token : Token) (op : ℕ × Infix)
    → taken rules bound p token ≡ Some op → step_have rules k bound t p token ≡ next (want op.1.right (infix_frame bound op.0 op.1.priority t ∷ k))
step_have_taken rules [] bound t p token op h = rw h refl
step_have_taken rules (infix_frame b n q left ∷ k) bound t p token op h = rw h refl
step_have_taken rules (prefix_frame b at n q ∷ k) bound t p token op h = rw h refl
step_have_taken rules (open_frame b o ∷ k) bound t p token op h = rw h refl

-- a move that wants an operand, or none
abbrev pub TakesOrFails : {T : Type 0} → Move T → Type 0
TakesOrFails {T = T} m = (m ≡ fault) ⊎ ((r : ℕ) × (k : List (Frame T)) × (m ≡ next (want r k)))

take_cases : {T : Type 0} (op : Option (ℕ × Infix)) (bound : ℕ) (t : T) (k : List (Frame T)) (other : Move T) → TakesOrFails other
    → TakesOrFails (take_or op bound t k other)
take_cases None bound t k other h = h
take_cases (Some op) bound t k other h = inr (op.1.right, infix_frame bound op.0 op.1.priority t ∷ k, refl)

-- no name ends what is open
pub ends-name : {T : Type 0} (rules : Rules T) (o : Open T) (t : T) (at m : ℕ) → ends rules o t (Name at m) ≡ wrong
ends-name rules (group_open at') t at m = refl
ends-name rules (curly_open at') t at m = refl
ends-name rules (arguments_open h ts) t at m = refl
ends-name rules (items_open at' ts) t at m = refl
ends-name rules (tail_open at' ts) t at m = refl

-- after a term a name is an infix operator, or unexpected
pub name_cases : {T : Type 0} (rules : Rules T) (k : List (Frame T)) (bound : ℕ) (t : T) (p : ℕ) (at m : ℕ)
    → TakesOrFails (step_have rules k bound t p (Name at m))
name_cases rules [] bound t p at m = take_cases (taken rules bound p (Name at m)) bound t [] _ (inl refl)
name_cases rules (infix_frame b n q left ∷ k) bound t p at m =
    take_cases (taken rules bound p (Name at m)) bound t _ _ (name_cases rules k b (rules.infixed n left t) q at m)
name_cases rules (prefix_frame b at' n q ∷ k) bound t p at m =
    take_cases (taken rules bound p (Name at m)) bound t _ _ (name_cases rules k b (rules.prefixed at' n t) q at m)
name_cases rules (open_frame b o ∷ k) bound t p at m =
    take_cases (taken rules bound p (Name at m)) bound t _ _ (inl (rw (ends-name rules o t at m) refl))

-- where nothing clings to a name that is not a prefix operator, it is an atom
pub go-named : {T : Type 0} (rules : Rules T) (k : List (Frame T)) (bound at n : ℕ) (us : List Token) → rules.prefixes n ≡ None → clings us ≡ false
    → go rules (named bound at n k) us ≡ go rules (have bound (rules.atom (plain at n)) 0 k) us
unfolding go
go-named rules k bound at n [] e h = refl
go-named rules k bound at n (Touching at' ∷ us) e h = cc
go-named rules k bound at n (Joined at' i ∷ us) e h = cc
go-named rules k bound at n (_ ∷ us) e h = rw e refl

pub go-titled : {T : Type 0} (rules : Rules T) (k : List (Frame T)) (bound : ℕ) (h : Head) (us : List Token) → touches us ≡ false
    → go rules (titled bound h k) us ≡ go rules (have bound (rules.atom h) 0 k) us
unfolding go
go-titled rules k bound h [] e = refl
go-titled rules k bound h (Touching at' ∷ us) e = cc
go-titled rules k bound h (_ ∷ us) e = refl

-- where no operator can be taken, the right side of an operator is at its end
pub go-infix : {T : Type 0} (rules : Rules T) (k : List (Frame T)) (b n q : ℕ) (left : T) (bound : ℕ) (t : T) (p : ℕ) (us : List Token)
    → taken_first rules bound p us ≡ None
    → go rules (have bound t p (infix_frame b n q left ∷ k)) us ≡ go rules (have b (rules.infixed n left t) q k) us
unfolding go
go-infix rules k b n q left bound t p [] h = refl
go-infix rules k b n q left bound t p (token ∷ us) h = rw h refl

pub go-prefix : {T : Type 0} (rules : Rules T) (k : List (Frame T)) (b at n q : ℕ) (bound : ℕ) (t : T) (p : ℕ) (us : List Token)
    → taken_first rules bound p us ≡ None
    → go rules (have bound t p (prefix_frame b at n q ∷ k)) us ≡ go rules (have b (rules.prefixed at n t) q k) us
unfolding go
go-prefix rules k b at n q bound t p [] h = refl
go-prefix rules k b at n q bound t p (token ∷ us) h = rw h refl

-- where no operator can be taken, what is open ends or goes on
pub go-open : {T : Type 0} (rules : Rules T) (k : List (Frame T)) (b : ℕ) (o : Open T) (bound : ℕ) (t : T) (p : ℕ) (token : Token) (us : List Token)
    → taken rules bound p token ≡ None
    → go rules (have bound t p (open_frame b o ∷ k)) (token ∷ us) ≡ moved (ended b k (ends rules o t token)) (λ s. go rules s us) (token ∷ us) us
unfolding go
go-open rules k b o bound t p token us h = rw h refl

-- where a prefix operator and a name that is an infix operator alone lead
pub step_fork : {T : Type 0} (rules : Rules T) (k : List (Frame T)) (bound at n : ℕ) (op : Prefix) (at' m : ℕ) (can : Bool)
    → rules.prefixes n ≡ Some op → is_infix_alone rules m ≡ true → nat_le op.priority bound ≡ can
    → step rules (named bound at n k) (Name at' m) ≡ fork can rules k bound at n op at' m
step_fork rules k bound at n op at' m can e i fits = rw (e, i, fits) refl

pub step_name_applies : {T : Type 0} (rules : Rules T) (k : List (Frame T)) (bound at n : ℕ) (op : Prefix) (at' m : ℕ) → rules.prefixes n ≡ Some op
    → is_infix_alone rules m ≡ false
    → step rules (named bound at n k) (Name at' m) ≡ apply rules bound at n op k (Name at' m)
step_name_applies rules k bound at n op at' m e i = rw (e, i) refl

-- where no parenthesis touches, the prefix operator is an atom
pub go-unsure : {T : Type 0} (rules : Rules T) (k : List (Frame T)) (bound at n : ℕ) (op : Prefix) (at' m r : ℕ) (kc : List (Frame T))
    (us : List Token)
    → touches us ≡ false
    → step_have rules k bound (rules.atom (plain at n)) 0 (Name at' m) ≡ next (want r kc)
    → go rules (unsure bound at n op at' m k) us ≡ go rules (want r kc) us
unfolding go
go-unsure rules k bound at n op at' m r kc [] h takes = refl
go-unsure rules k bound at n op at' m r kc (Touching at'' ∷ us) h takes = cc
go-unsure rules k bound at n op at' m r kc (_ ∷ us) h takes = rw takes refl

pub go-infix_only : {T : Type 0} (rules : Rules T) (k : List (Frame T)) (r : ℕ) (us : List Token) → touches us ≡ false
    → go rules (infix_only r k) us ≡ go rules (want r k) us
unfolding go
go-infix_only rules k r [] h = refl
go-infix_only rules k r (Touching at ∷ us) h = cc
go-infix_only rules k r (_ ∷ us) h = refl

pub no_infix_touching : {T : Type 0} (rules : Rules T) (k : List (Frame T)) (r : ℕ) (us : List Token) (x : T × List Token) → touches us ≡ true
    → go rules (infix_only r k) us ≡ Ok x → ⊥
unfolding go
no_infix_touching rules k r [] x h e = cc
no_infix_touching rules k r (Touching at ∷ us) x h e = cc
no_infix_touching rules k r (_ ∷ us) x h e = cc

-- the tokens after a parenthesis that touches
pub touching_is : (us : List Token) → touches us ≡ true → (at : ℕ) × (vs : List Token) × (us ≡ Touching at ∷ vs)
touching_is [] h = cc
touching_is (Touching at ∷ us) h = (at, us, refl)
touching_is (_ ∷ us) h = cc

pub no_call_apart : {T : Type 0} (rules : Rules T) (k : List (Frame T)) (bound at n : ℕ) (op : Prefix) (at' m : ℕ) (us : List Token)
    (x : T × List Token)
    → touches us ≡ false
    → step_have rules k bound (rules.atom (plain at n)) 0 (Name at' m) ≡ fault → go rules (unsure bound at n op at' m k) us ≡ Ok x → ⊥
unfolding go
no_call_apart rules k bound at n op at' m [] x h fails e = cc
no_call_apart rules k bound at n op at' m (Touching at'' ∷ us) x h fails e = cc
no_call_apart rules k bound at n op at' m (_ ∷ us) x h fails e = let f = rw fails at e in cc

-- A bracket or a brace that is not closed at once. (Its own closing token begins no term.)
pub go-bracketed : {T : Type 0} (rules : Rules T) (k : List (Frame T)) (bound at : ℕ) (us : List Token) (x : T × List Token)
    → go rules (want 999 (open_frame bound (items_open at []) ∷ k)) us ≡ Ok x → go rules (bracketed bound at k) us ≡ Ok x
unfolding go
go-bracketed rules k bound at [] x h = cc
go-bracketed rules k bound at (BracketEnd ∷ us) x h = cc
go-bracketed rules k bound at (_ ∷ us) x h = h

pub go-braced : {T : Type 0} (rules : Rules T) (k : List (Frame T)) (bound at : ℕ) (us : List Token) (x : T × List Token)
    → go rules (want 1200 (open_frame bound (curly_open at) ∷ k)) us ≡ Ok x → go rules (braced bound at k) us ≡ Ok x
unfolding go
go-braced rules k bound at [] x h = cc
go-braced rules k bound at (BraceEnd ∷ us) x h = cc
go-braced rules k bound at (_ ∷ us) x h = h
