-- Marks are tokens of one byte each. From each state of the machine some of them complete a clause.
use Rattle.std.proofs.Common.{◌≡◌, ℕ, List, [], ◌∷◌, ◌++◌, Bool, true, false, Ok, Err, refl, sym, ap, subst}
use Rattle.prolog_tokens.specs.declared.token.TokenKind.{TokenKind}
use Rattle.prolog_tokens.specs.declared.token.TokenKind.TheVariants as kind
use Rattle.prolog_grammar.specs.Token.{variable, Token, Leaf, Touching, ParenEnd, Bracket, BracketEnd, BraceEnd, End}
use Rattle.prolog_grammar.specs.Rules.{plain, brackets, braces, Rules}
use Rattle.prolog_grammar.specs.Fault.{IsClause, CanGoOn, is_name}
use Rattle.prolog_grammar.specs.Machine.{Open, group_open, curly_open, arguments_open, items_open, tail_open, Frame, infix_frame, prefix_frame, open_frame, State, want, named, titled, bracketed, braced, have, unsure, infix_only, Move, next, done, fault, step, moved, Outcome, go, start}
use Rattle.prolog_grammar.proofs.First.{close, closer, Ends, ends_as, have_closes, titled_closes}
use Rattle.prolog_grammar.proofs.Complete.{complete}
use Rattle.prolog_grammar.proofs.Sound.{sound}
use Rattle.prolog_reader.proofs.StateLemmas.{After, Fits, step_fits}

pub data Mark : Type 0 where
  paren : Mark
  underscore : Mark
  paren_end : Mark
  bracket : Mark
  bracket_end : Mark
  brace_end : Mark
  dot : Mark

abbrev pub mark_byte : Mark → ℕ
mark_byte paren = 40
mark_byte underscore = 95
mark_byte paren_end = 41
mark_byte bracket = 91
mark_byte bracket_end = 93
mark_byte brace_end = 125
mark_byte dot = 46

abbrev pub mark_kind : Mark → TokenKind
mark_kind paren = kind.Paren
mark_kind underscore = kind.Var
mark_kind paren_end = kind.ParenEnd
mark_kind bracket = kind.List
mark_kind bracket_end = kind.ListEnd
mark_kind brace_end = kind.CurlyEnd
mark_kind dot = kind.End

-- a parenthesis stands after an underscore, and nothing after a dot
abbrev pub Fine : Mark → List Mark → Type 0
Fine dot ms = ms ≡ []
Fine underscore (paren_end ∷ ms) = Unit {0}
Fine underscore ms = ⊥
Fine m ms = Unit {0}

abbrev pub AllFine : List Mark → Type 0
AllFine [] = Unit {0}
AllFine (m ∷ ms) = Fine m ms × AllFine ms

-- marks after a name begin with an opening parenthesis or bracket, and others with no opening parenthesis
abbrev pub SeparatedBy : Bool → List Mark → Type 0
SeparatedBy true (paren ∷ ms) = Unit {0}
SeparatedBy true (bracket ∷ ms) = Unit {0}
SeparatedBy true ms = ⊥
SeparatedBy false (paren ∷ ms) = ⊥
SeparatedBy false ms = Unit {0}

-- the tokens that the grammar sees of marks, where each opening parenthesis touches what is before it
pub data Shows : List Mark → List Token → Type 0 where
  shows_none : Shows [] []
  shows_paren : {at : ℕ} {ms : List Mark} {us : List Token} → Shows ms us → Shows (paren ∷ ms) (Touching at ∷ us)
  shows_underscore : {at v : ℕ} {ms : List Mark} {us : List Token} → Shows ms us → Shows (underscore ∷ ms) (Leaf at (variable v) ∷ us)
  shows_paren_end : {ms : List Mark} {us : List Token} → Shows ms us → Shows (paren_end ∷ ms) (ParenEnd ∷ us)
  shows_bracket : {at : ℕ} {ms : List Mark} {us : List Token} → Shows ms us → Shows (bracket ∷ ms) (Bracket at ∷ us)
  shows_bracket_end : {ms : List Mark} {us : List Token} → Shows ms us → Shows (bracket_end ∷ ms) (BracketEnd ∷ us)
  shows_brace_end : {ms : List Mark} {us : List Token} → Shows ms us → Shows (brace_end ∷ ms) (BraceEnd ∷ us)
  shows_dot : {ms : List Mark} {us : List Token} → Shows ms us → Shows (dot ∷ ms) (End ∷ us)

-- ---- the marks that complete a clause

abbrev closing : {T : Type 0} → Open T → Mark
closing (group_open at) = paren_end
closing (curly_open at) = brace_end
closing (arguments_open head ts) = paren_end
closing (items_open at ts) = bracket_end
closing (tail_open at ts) = bracket_end

abbrev closers : {T : Type 0} → List (Frame T) → List Mark
closers [] = dot ∷ []
closers (infix_frame b n q left ∷ k) = closers k
closers (prefix_frame b at n q ∷ k) = closers k
closers (open_frame b o ∷ k) = closing o ∷ closers k

abbrev completion : {T : Type 0} → State T → List Mark
completion (want bound k) = bracket ∷ bracket_end ∷ closers k
completion (named bound at n k) = paren ∷ underscore ∷ paren_end ∷ closers k
completion (titled bound head k) = closers k
completion (bracketed bound at k) = bracket_end ∷ closers k
completion (braced bound at k) = brace_end ∷ closers k
completion (have bound t p k) = closers k
completion (unsure bound at n op at' m k) = paren ∷ underscore ∷ paren_end ∷ closers k
completion (infix_only r k) = bracket ∷ bracket_end ∷ closers k

closers_fine : {T : Type 0} (k : List (Frame T)) → AllFine (closers k)
closers_fine [] = (refl, tt)
closers_fine (infix_frame b n q left ∷ k) = closers_fine k
closers_fine (prefix_frame b at n q ∷ k) = closers_fine k
closers_fine (open_frame b (group_open at) ∷ k) = (tt, closers_fine k)
closers_fine (open_frame b (curly_open at) ∷ k) = (tt, closers_fine k)
closers_fine (open_frame b (arguments_open head ts) ∷ k) = (tt, closers_fine k)
closers_fine (open_frame b (items_open at ts) ∷ k) = (tt, closers_fine k)
closers_fine (open_frame b (tail_open at ts) ∷ k) = (tt, closers_fine k)

completion_fine : {T : Type 0} (s : State T) → AllFine (completion s)
completion_fine (want bound k) = (tt, (tt, closers_fine k))
completion_fine (named bound at n k) = (tt, (tt, (tt, closers_fine k)))
completion_fine (titled bound head k) = closers_fine k
completion_fine (bracketed bound at k) = (tt, closers_fine k)
completion_fine (braced bound at k) = (tt, closers_fine k)
completion_fine (have bound t p k) = closers_fine k
completion_fine (unsure bound at n op at' m k) = (tt, (tt, (tt, closers_fine k)))
completion_fine (infix_only r k) = (tt, (tt, closers_fine k))

closers_apart : {T : Type 0} (k : List (Frame T)) → SeparatedBy false (closers k)
closers_apart [] = tt
closers_apart (infix_frame b n q left ∷ k) = closers_apart k
closers_apart (prefix_frame b at n q ∷ k) = closers_apart k
closers_apart (open_frame b (group_open at) ∷ k) = tt
closers_apart (open_frame b (curly_open at) ∷ k) = tt
closers_apart (open_frame b (arguments_open head ts) ∷ k) = tt
closers_apart (open_frame b (items_open at ts) ∷ k) = tt
closers_apart (open_frame b (tail_open at ts) ∷ k) = tt

completion_apart : {T : Type 0} (name : Bool) (s : State T) → After name s → SeparatedBy name (completion s)
completion_apart true (want bound k) h = tt
completion_apart true (named bound at n k) h = tt
completion_apart true (titled bound head k) h = absurd h
completion_apart true (bracketed bound at k) h = absurd h
completion_apart true (braced bound at k) h = absurd h
completion_apart true (have bound t p k) h = absurd h
completion_apart true (unsure bound at n op at' m k) h = tt
completion_apart true (infix_only r k) h = tt
completion_apart false (want bound k) h = tt
completion_apart false (named bound at n k) h = absurd h
completion_apart false (titled bound head k) h = closers_apart k
completion_apart false (bracketed bound at k) h = tt
completion_apart false (braced bound at k) h = tt
completion_apart false (have bound t p k) h = closers_apart k
completion_apart false (unsure bound at n op at' m k) h = absurd h
completion_apart false (infix_only r k) h = absurd h

-- what closers show
shown_closers : {T : Type 0} (k : List (Frame T)) (us : List Token) → Shows (closers k) us → us ≡ close k
unfolding close closer
shown_closers [] us (shows_dot shows_none) = refl
shown_closers (infix_frame b n q left ∷ k) us h = shown_closers k us h
shown_closers (prefix_frame b at n q ∷ k) us h = shown_closers k us h
shown_closers (open_frame b (group_open at) ∷ k) us (shows_paren_end {us = vs} h) = ap (λ (xs : List Token). ParenEnd ∷ xs) (shown_closers k vs h)
shown_closers (open_frame b (curly_open at) ∷ k) us (shows_brace_end {us = vs} h) = ap (λ (xs : List Token). BraceEnd ∷ xs) (shown_closers k vs h)
shown_closers (open_frame b (arguments_open head ts) ∷ k) us (shows_paren_end {us = vs} h) = ap (λ (xs : List Token). ParenEnd ∷ xs) (shown_closers k vs h)
shown_closers (open_frame b (items_open at ts) ∷ k) us (shows_bracket_end {us = vs} h) = ap (λ (xs : List Token). BracketEnd ∷ xs) (shown_closers k vs h)
shown_closers (open_frame b (tail_open at ts) ∷ k) us (shows_bracket_end {us = vs} h) = ap (λ (xs : List Token). BracketEnd ∷ xs) (shown_closers k vs h)

-- from a state the machine ends with these tokens, where it ends with what closers show
ends_by : {T : Type 0} (rules : Rules T) (s : State T) (front : List Token) (k : List (Frame T)) (vs : List Token) → Shows (closers k) vs → Ends rules s (front ++ close k) → Ends rules s (front ++ vs)
ends_by rules s front k vs h e = subst (λ (xs : List Token). Ends rules s (front ++ xs)) (sym (shown_closers k vs h)) e

-- the empty list where an operand begins
list_closes : {T : Type 0} (rules : Rules T) (bound at : ℕ) (k : List (Frame T)) → Ends rules (want bound k) (Bracket at ∷ BracketEnd ∷ close k)
unfolding go
list_closes rules bound at k = titled_closes rules k bound (brackets at)

list_closes_infix : {T : Type 0} (rules : Rules T) (bound at : ℕ) (k : List (Frame T)) → Ends rules (infix_only bound k) (Bracket at ∷ BracketEnd ∷ close k)
unfolding go
list_closes_infix rules bound at k = titled_closes rules k bound (brackets at)

-- arguments after a name
call_closes : {T : Type 0} (rules : Rules T) (bound at n at' at'' v : ℕ) (k : List (Frame T)) → Ends rules (named bound at n k) (Touching at' ∷ Leaf at'' (variable v) ∷ ParenEnd ∷ close k)
unfolding go close closer
call_closes rules bound at n at' at'' v k = have_closes rules (open_frame bound (arguments_open (plain at n) []) ∷ k) 999 (rules.leaf at'' (variable v)) 0

shown_ends : {T : Type 0} (rules : Rules T) (s : State T) (vs : List Token) → Shows (completion s) vs → Ends rules s vs
unfolding go close closer
shown_ends rules (want bound k) vs (shows_bracket {at = at} (shows_bracket_end {us = us} h)) = ends_by rules (want bound k) (Bracket at ∷ BracketEnd ∷ []) k us h (list_closes rules bound at k)
shown_ends rules (named bound at n k) vs (shows_paren {at = a} (shows_underscore {at = b} {v = v} (shows_paren_end {us = us} h))) =
    ends_by rules (named bound at n k) (Touching a ∷ Leaf b (variable v) ∷ ParenEnd ∷ []) k us h (call_closes rules bound at n a b v k)
shown_ends rules (titled bound head k) vs h = ends_by rules (titled bound head k) [] k vs h (titled_closes rules k bound head)
shown_ends rules (bracketed bound at k) vs (shows_bracket_end {us = us} h) = ends_by rules (bracketed bound at k) (BracketEnd ∷ []) k us h (titled_closes rules k bound (brackets at))
shown_ends rules (braced bound at k) vs (shows_brace_end {us = us} h) = ends_by rules (braced bound at k) (BraceEnd ∷ []) k us h (titled_closes rules k bound (braces at))
shown_ends rules (have bound t p k) vs h = ends_by rules (have bound t p k) [] k vs h (have_closes rules k bound t p)
shown_ends rules (unsure bound at n op at' m k) vs (shows_paren {at = a} (shows_underscore {at = b} {v = v} (shows_paren_end {us = us} h))) =
    ends_by rules (unsure bound at n op at' m k) (Touching a ∷ Leaf b (variable v) ∷ ParenEnd ∷ []) k us h
    (have_closes rules (open_frame op.right (arguments_open (plain at' m) []) ∷ prefix_frame bound at n op.priority ∷ k) 999 (rules.leaf b (variable v)) 0)
shown_ends rules (infix_only r k) vs (shows_bracket {at = at} (shows_bracket_end {us = us} h)) = ends_by rules (infix_only r k) (Bracket at ∷ BracketEnd ∷ []) k us h (list_closes_infix rules r at k)

-- ---- the marks that complete these tokens

-- the last token is a name, where none stands for one before them that is or is not
abbrev pub name_last : Bool → List Token → Bool
name_last name [] = name
name_last name (token ∷ us) = name_last (is_name token) us

pub record Finish {T : Type 0} (rules : Rules T) (s : State T) (name : Bool) (us : List Token) : Type 0 where
  pub marks : List Mark
  pub fine : AllFine marks
  pub apart : SeparatedBy (name_last name us) marks
  pub ends : (vs : List Token) → Shows marks vs → Ends rules s (us ++ vs)

finish_here : {T : Type 0} (rules : Rules T) (s : State T) (name : Bool) → After name s → Finish rules s name []
finish_here rules s name h = record {
  marks = completion s;
  fine = completion_fine s;
  apart = completion_apart name s h;
  ends = λ vs shown. shown_ends rules s vs shown;
}

-- one move on, and then as from there
finish_after : {T : Type 0} (rules : Rules T) (s s' : State T) (name : Bool) (token : Token) (us : List Token) → step rules s token ≡ next s' → Finish rules s' (is_name token) us
    → Finish rules s name (token ∷ us)
unfolding go
finish_after rules s s' name token us e f = record {
  marks = f.marks;
  fine = f.fine;
  apart = f.apart;
  ends = λ vs shown. ends_as rules s s' (token ∷ (us ++ vs)) (us ++ vs) (rw e refl) (f.ends vs shown);
}

rest_of : {T : Type 0} → Outcome T → List Token
rest_of (Ok r) = r.1
rest_of (Err us) = us

ok_rest : {T : Type 0} (t t' : T) (us vs : List Token) → ◌≡◌ {A = Outcome T} (Ok (t, us)) (Ok (t', vs)) → us ≡ vs
unfolding rest_of
ok_rest t t' us vs h = ap rest_of h

nothing_first : (us vs : List Token) → us ++ vs ≡ [] → us ≡ []
nothing_first [] vs h = refl
nothing_first (u ∷ us) vs h = cc

-- the clause ends with a token
finish_done : {T : Type 0} (rules : Rules T) (s : State T) (name : Bool) (token : Token) (us : List Token) (t : T) → step rules s token ≡ done t → is_name token ≡ false → us ≡ []
    → Finish rules s name (token ∷ us)
unfolding go
finish_done rules s name token us t e other none = subst (λ (xs : List Token). Finish rules s name (token ∷ xs)) (sym none) (record {
  marks = [];
  fine = tt;
  apart = subst (λ (b : Bool). SeparatedBy b []) (sym other) tt;
  ends = ended;
})
  where
    ended : (vs : List Token) → Shows [] vs → Ends rules s (token ∷ vs)
    ended vs shows_none = (t, rw e refl)

finish_by : {T : Type 0} (rules : Rules T) (s : State T) (name : Bool) (us more : List Token) (t : T) → After name s → go rules s (us ++ more) ≡ Ok (t, []) → Finish rules s name us
unfolding go
finish_by rules s name [] more t h e = finish_here rules s name h
finish_by {T = T} rules s name (token ∷ us) more t h e = by_move (step rules s token) refl (step_fits rules s token) e (λ s' h' e'. finish_by rules s' (is_name token) us more t h' e')
  where
    by_move : (m : Move T) → step rules s token ≡ m → Fits (is_name token) m → moved m (λ s'. go rules s' (us ++ more)) (token ∷ (us ++ more)) (us ++ more) ≡ Ok (t, [])
        → ((s' : State T) → After (is_name token) s' → go rules s' (us ++ more) ≡ Ok (t, []) → Finish rules s' (is_name token) us) → Finish rules s name (token ∷ us)
    by_move (next s') d fit f later = finish_after rules s s' name token us d (later s' fit f)
    by_move (done t') d fit f later = finish_done rules s name token us t' d fit (nothing_first us more (ok_rest t' t (us ++ more) [] f))
    by_move fault d fit f later = cc

-- tokens that can go on
pub finish : {T : Type 0} (rules : Rules T) (us : List Token) → CanGoOn rules us → Finish rules start false us
finish rules us can = finish_by rules start false us can.0 can.1.0 tt (complete can.1.2)

-- with what the marks show they are a clause
pub finished : {T : Type 0} (rules : Rules T) (us vs : List Token) (f : Finish rules start false us) → Shows f.marks vs → IsClause rules (us ++ vs)
finished rules us vs f shown =
    let end = f.ends vs shown in
    let reads = sound rules (us ++ vs) [] end.0 end.1 in
    (end.0, reads.0, reads.1)
