-- The first unexpected token: nothing completes what it ends, and something completes what is before it.
use Rattle.std.proofs.Common.{◌≡◌, ℕ, List, [], ◌∷◌, ◌++◌, Option, Some, None, Ok, Err, refl, ap, sym, ◌∙◌, subst, append_assoc}
use Rattle.prolog_grammar.specs.Token.{variable, Token, Leaf, Touching, ParenEnd, BracketEnd, BraceEnd, End}
use Rattle.prolog_grammar.specs.Rules.{Prefix, Head, plain, brackets, braces, Rules, taken_first}
use Rattle.prolog_grammar.specs.Fault.{CannotGoOn, IsUnexpected}
use Rattle.prolog_grammar.specs.Machine.{Open, group_open, curly_open, arguments_open, items_open, tail_open, Frame, infix_frame, prefix_frame, open_frame, State, want, named, titled, bracketed, braced, have, unsure, infix_only, Move, next, done, fault, step, moved, Outcome, go, start}
use Rattle.prolog_grammar.proofs.Moves.{go-infix, go-prefix}
use Rattle.prolog_grammar.proofs.Complete.{complete}
use Rattle.prolog_grammar.proofs.Sound.{sound}

-- the machine has no move for the first of the rest
abbrev pub Stuck : {T : Type 0} → Rules T → State T → List Token → Type 0
Stuck rules s [] = Unit {0}
Stuck rules s (token ∷ rest) = step rules s token ≡ fault

-- where the machine comes to before it gives up, whatever follows
pub record Stops {T : Type 0} (rules : Rules T) (s : State T) (us rest : List Token) : Type 0 where
  pub before : List Token
  pub last : State T
  pub whole : us ≡ before ++ rest
  pub comes : (more : List Token) → go rules s (before ++ more) ≡ go rules last more
  pub stuck : Stuck rules last rest

stops_here : {T : Type 0} (rules : Rules T) (s : State T) (us : List Token) → Stuck rules s us → Stops rules s us us
stops_here rules s us h = record { before = []; last = s; whole = refl; comes = λ more. refl; stuck = h }

err_is : {T : Type 0} (xs ys : List Token) → ◌≡◌ {A = Outcome T} (Err xs) (Err ys) → xs ≡ ys
err_is xs ys h = cc

-- one move on, and then as from there
stops_after : {T : Type 0} (rules : Rules T) (s s' : State T) (token : Token) (us rest : List Token) → step rules s token ≡ next s'
    → Stops rules s' us rest → Stops rules s (token ∷ us) rest
unfolding go
stops_after rules s s' token us rest e later = record {
  before = token ∷ later.before;
  last = later.last;
  whole = ap (λ xs. token ∷ xs) later.whole;
  comes = λ more. rw e (later.comes more);
  stuck = later.stuck;
}

pub stops : {T : Type 0} (rules : Rules T) (s : State T) (us rest : List Token) → go rules s us ≡ Err rest → Stops rules s us rest
unfolding go
stops {T = T} rules s [] rest h = subst (λ xs. Stops rules s [] xs) (err_is {T = T} [] rest h) (stops_here rules s [] tt)
stops {T = T} rules s (token ∷ us) rest h = by_move (step rules s token) refl h (λ s' h'. stops rules s' us rest h')
  where
    by_move : (m : Move T) → step rules s token ≡ m → moved m (λ s'. go rules s' us) (token ∷ us) us ≡ Err rest
        → ((s' : State T) → go rules s' us ≡ Err rest → Stops rules s' us rest) → Stops rules s (token ∷ us) rest
    by_move (next s') e f later = stops_after rules s s' token us rest e (later s' f)
    by_move (done t) e f later = cc
    by_move fault e f later = subst (λ xs. Stops rules s (token ∷ us) xs) (err_is {T = T} (token ∷ us) rest f) (stops_here rules s (token ∷ us) e)

-- the token that closes what is open
unfoldable pub closer : {T : Type 0} → Open T → Token
closer (group_open at) = ParenEnd
closer (curly_open at) = BraceEnd
closer (arguments_open head ts) = ParenEnd
closer (items_open at ts) = BracketEnd
closer (tail_open at ts) = BracketEnd

-- what closes all that is open, and the clause
unfoldable pub close : {T : Type 0} → List (Frame T) → List Token
close [] = End ∷ []
close (infix_frame b n q left ∷ k) = close k
close (prefix_frame b at n q ∷ k) = close k
close (open_frame b o ∷ k) = closer o ∷ close k

-- what completes a clause from a state
unfoldable pub finish : {T : Type 0} → State T → List Token
unfolding close
finish (want bound k) = Leaf 0 (variable 0) ∷ close k
finish (named bound at n k) = close k
finish (titled bound head k) = close k
finish (bracketed bound at k) = BracketEnd ∷ close k
finish (braced bound at k) = BraceEnd ∷ close k
finish (have bound t p k) = close k
finish (unsure bound at n op at' m k) = Touching 0 ∷ Leaf 0 (variable 0) ∷ ParenEnd ∷ close k
finish (infix_only r k) = Leaf 0 (variable 0) ∷ close k

pub close-taken : {T : Type 0} (rules : Rules T) (k : List (Frame T)) (bound p : ℕ) → taken_first rules bound p (close k) ≡ None
unfolding close closer
close-taken rules [] bound p = refl
close-taken rules (infix_frame b n q left ∷ k) bound p = close-taken rules k bound p
close-taken rules (prefix_frame b at n q ∷ k) bound p = close-taken rules k bound p
close-taken rules (open_frame b (group_open at) ∷ k) bound p = refl
close-taken rules (open_frame b (curly_open at) ∷ k) bound p = refl
close-taken rules (open_frame b (arguments_open head ts) ∷ k) bound p = refl
close-taken rules (open_frame b (items_open at ts) ∷ k) bound p = refl
close-taken rules (open_frame b (tail_open at ts) ∷ k) bound p = refl

-- from a state the machine ends well with these tokens
abbrev pub Ends : {T : Type 0} → Rules T → State T → List Token → Type 0
Ends {T = T} rules s us = (t : T) × (go rules s us ≡ Ok (t, []))

pub ends_as : {T : Type 0} (rules : Rules T) (s s' : State T) (us vs : List Token) → go rules s us ≡ go rules s' vs → Ends rules s' vs
    → Ends rules s us
ends_as rules s s' us vs e end = (end.0, e ∙ end.1)

pub have_closes : {T : Type 0} (rules : Rules T) (k : List (Frame T)) (bound : ℕ) (t : T) (p : ℕ) → Ends rules (have bound t p k) (close k)
unfolding go close closer
have_closes rules [] bound t p = (t, refl)
have_closes rules (infix_frame b n q left ∷ k) bound t p =
    ends_as rules (have bound t p (infix_frame b n q left ∷ k)) (have b (rules.infixed n left t) q k) (close k) (close k) (go-infix rules k b n q left bound t p (close k) (close-taken rules k bound p)) (have_closes rules k b (rules.infixed n left t) q)
have_closes rules (prefix_frame b at n q ∷ k) bound t p =
    ends_as rules (have bound t p (prefix_frame b at n q ∷ k)) (have b (rules.prefixed at n t) q k) (close k) (close k) (go-prefix rules k b at n q bound t p (close k) (close-taken rules k bound p)) (have_closes rules k b (rules.prefixed at n t) q)
have_closes rules (open_frame b (group_open at) ∷ k) bound t p = have_closes rules k b (rules.grouped at t) 0
have_closes rules (open_frame b (curly_open at) ∷ k) bound t p = have_closes rules k b (rules.curled at t) 0
have_closes rules (open_frame b (arguments_open head ts) ∷ k) bound t p = have_closes rules k b (rules.call head (ts ++ t ∷ [])) 0
have_closes rules (open_frame b (items_open at ts) ∷ k) bound t p = have_closes rules k b (rules.listed at (ts ++ t ∷ []) None) 0
have_closes rules (open_frame b (tail_open at ts) ∷ k) bound t p = have_closes rules k b (rules.listed at ts (Some t)) 0

-- a token that closes something, or the End
pub data Closing : Token → Type 0 where
  by_paren : Closing ParenEnd
  by_bracket : Closing BracketEnd
  by_brace : Closing BraceEnd
  by_end : Closing End

-- it decides that a name is an atom
named_ends : {T : Type 0} (rules : Rules T) (k : List (Frame T)) (bound at n : ℕ) (token : Token) (us : List Token) (op : Option Prefix)
    → rules.prefixes n ≡ op → Closing token
    → go rules (named bound at n k) (token ∷ us) ≡ go rules (have bound (rules.atom (plain at n)) 0 k) (token ∷ us)
unfolding go
named_ends rules k bound at n token us None e by_paren = rw e refl
named_ends rules k bound at n token us None e by_bracket = rw e refl
named_ends rules k bound at n token us None e by_brace = rw e refl
named_ends rules k bound at n token us None e by_end = rw e refl
named_ends rules k bound at n token us (Some op) e by_paren = rw e refl
named_ends rules k bound at n token us (Some op) e by_bracket = rw e refl
named_ends rules k bound at n token us (Some op) e by_brace = rw e refl
named_ends rules k bound at n token us (Some op) e by_end = rw e refl

titled_ends : {T : Type 0} (rules : Rules T) (k : List (Frame T)) (bound : ℕ) (head : Head) (token : Token) (us : List Token) → Closing token
    → go rules (titled bound head k) (token ∷ us) ≡ go rules (have bound (rules.atom head) 0 k) (token ∷ us)
unfolding go
titled_ends rules k bound head token us by_paren = refl
titled_ends rules k bound head token us by_bracket = refl
titled_ends rules k bound head token us by_brace = refl
titled_ends rules k bound head token us by_end = refl

pub close_first : {T : Type 0} (k : List (Frame T)) → (token : Token) × (us : List Token) × (close k ≡ token ∷ us) × Closing token
unfolding close closer
close_first [] = (End, [], refl, by_end)
close_first (infix_frame b n q left ∷ k) = close_first k
close_first (prefix_frame b at n q ∷ k) = close_first k
close_first (open_frame b (group_open at) ∷ k) = (ParenEnd, close k, refl, by_paren)
close_first (open_frame b (curly_open at) ∷ k) = (BraceEnd, close k, refl, by_brace)
close_first (open_frame b (arguments_open head ts) ∷ k) = (ParenEnd, close k, refl, by_paren)
close_first (open_frame b (items_open at ts) ∷ k) = (BracketEnd, close k, refl, by_bracket)
close_first (open_frame b (tail_open at ts) ∷ k) = (BracketEnd, close k, refl, by_bracket)

pub named_closes : {T : Type 0} (rules : Rules T) (k : List (Frame T)) (bound at n : ℕ) → Ends rules (named bound at n k) (close k)
named_closes rules k bound at n =
    let first = close_first k in
    ends_as rules _ _ _ _ (rw first.2 (named_ends rules k bound at n first.0 first.1 (rules.prefixes n) refl first.3)) (have_closes rules k bound (rules.atom (plain at n)) 0)

pub titled_closes : {T : Type 0} (rules : Rules T) (k : List (Frame T)) (bound : ℕ) (head : Head) → Ends rules (titled bound head k) (close k)
titled_closes rules k bound head =
    let first = close_first k in
    ends_as rules _ _ _ _ (rw first.2 (titled_ends rules k bound head first.0 first.1 first.3)) (have_closes rules k bound (rules.atom head) 0)

pub finishes : {T : Type 0} (rules : Rules T) (s : State T) → Ends rules s (finish s)
unfolding go finish closer
finishes rules (want bound k) = have_closes rules k bound _ 0
finishes rules (named bound at n k) = named_closes rules k bound at n
finishes rules (titled bound head k) = titled_closes rules k bound head
finishes rules (bracketed bound at k) = titled_closes rules k bound (brackets at)
finishes rules (braced bound at k) = titled_closes rules k bound (braces at)
finishes rules (have bound t p k) = have_closes rules k bound t p
finishes {T = T} rules (unsure bound at n op at' m k) =
    have_closes rules (open_frame op.right (arguments_open (plain at' m) []) ∷ prefix_frame bound at n op.priority ∷ k) 999 (rules.leaf 0 (variable 0)) 0
finishes rules (infix_only r k) = have_closes rules k r _ 0

-- the machine gives up with any tokens after the one that it has no move for
pub go-stuck : {T : Type 0} (rules : Rules T) (s : State T) (token : Token) (more : List Token) → step rules s token ≡ fault
    → go rules s (token ∷ more) ≡ Err (token ∷ more)
unfolding go
go-stuck rules s token more h = rw h refl

cannot : {T : Type 0} (rules : Rules T) (us : List Token) (rest : List Token) (at : Stops rules start us rest) → CannotGoOn rules at.before rest
cannot rules us rest at = cannot_by rest at.stuck
  where
    cannot_by : (xs : List Token) → Stuck rules at.last xs → CannotGoOn rules at.before xs
    cannot_by [] h = tt
    cannot_by (token ∷ xs) h = λ goes.
        let read = complete goes.1.2 in
        let ends = ap (go rules start) (append_assoc at.before (token ∷ []) goes.0) ∙ at.comes (token ∷ goes.0) ∙ go-stuck rules at.last token goes.0 h in
        let both = sym read ∙ ends in
        cc

pub unexpected : {T : Type 0} (rules : Rules T) (us rest : List Token) → go rules start us ≡ Err rest → IsUnexpected rules us rest
unexpected rules us rest h =
    let at = stops rules start us rest h in
    let end = finishes rules at.last in
    let reads = sound rules (at.before ++ finish at.last) [] end.0 (at.comes (finish at.last) ∙ end.1) in
    record {
      before = at.before;
      whole = at.whole;
      can = (finish at.last, (end.0, reads.0, reads.1));
      cannot = cannot rules us rest at;
      unread = λ t p after clause. let both = sym (complete clause) ∙ h in cc;
    }
