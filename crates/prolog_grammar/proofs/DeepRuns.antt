-- The machine with the depth rule finds the first token that breaks it.
use Rattle.std.proofs.Common.{◌≡◌, ℕ, List, [], ◌∷◌, ◌++◌, length, Option, Some, None, Ok, Err, Bool, true, false, if◌then◌else◌, nat_le, refl, ap, sym, ◌∙◌, inl, inr}
use Rattle.prolog_grammar.specs.Token.{variable, Token, Leaf, Joined, Name, Touching, ParenEnd, touches}
use Rattle.prolog_grammar.specs.Rules.{Infix, Prefix, plain, Rules, taken, is_infix_alone}
use Rattle.prolog_grammar.specs.Syntax.{Syntax, syntax_rules}
use Rattle.prolog_grammar.specs.Machine.{group_open, curly_open, arguments_open, items_open, Frame, infix_frame, prefix_frame, open_frame, State, want, named, titled, bracketed, braced, have, unsure, infix_only, Move, next, done, fault, ends, ended, then_want, fork, take_or, end_text, step, step_have, step_want, go, start}
use Rattle.prolog_grammar.specs.Depth.{quiet, too_deep, one_on, first_deep}
use Rattle.prolog_grammar.specs.Fault.{is_name, FollowsAlike, IsDeep, deep, Verdict}
use Rattle.prolog_grammar.specs.Run.{have_load, load_or, fork_load, apart_load, load, checked, run}
use Rattle.prolog_grammar.proofs.Moves.{TakesOrFails, name_cases, go-unsure, go-infix_only}
use Rattle.prolog_grammar.proofs.Sound.{sound}
use Rattle.prolog_grammar.proofs.First.{closer, close, finish, Ends, ends_as, have_closes, close_first, Closing, by_paren, by_bracket, by_brace, by_end, named_closes, finishes}
use Rattle.prolog_grammar.proofs.Loads.{traced, trace, traces}

touches_first : (token : Token) (us vs : List Token) → touches (token ∷ us) ≡ touches (token ∷ vs)
touches_first (Touching at) us vs = refl
touches_first _ us vs = refl

pub touches_same : (before : List Token) (token : Token) (us vs : List Token) → touches (before ++ token ∷ us) ≡ touches (before ++ token ∷ vs)
touches_same [] token us vs = touches_first token us vs
touches_same (x ∷ before) token us vs = touches_first x (before ++ token ∷ us) (before ++ token ∷ vs)

-- only of a name it counts what touches it
apart_alike : {T : Type 0} (rules : Rules T) (op : Option Prefix) (k : List (Frame T)) (bound at n : ℕ) (token : Token) (f g : Bool)
    → (is_name token ≡ true → f ≡ g)
    → apart_load op rules k bound at n token f ≡ apart_load op rules k bound at n token g
apart_alike rules None k bound at n token f g h = refl
apart_alike rules (Some op) k bound at n (Name at' m) f g h = rw (h refl) refl
apart_alike rules (Some op) k bound at n _ f g h = refl

pub load_alike : {T : Type 0} (rules : Rules T) (s : State T) (token : Token) (f g : Bool) → (is_name token ≡ true → f ≡ g)
    → load rules s token f ≡ load rules s token g
load_alike rules (named bound at n k) (Touching at') f g h = refl
load_alike rules (named bound at n k) (Joined at' i) f g h = refl
load_alike rules (named bound at n k) token f g h = apart_alike rules (rules.prefixes n) k bound at n token f g h
load_alike rules _ token f g h = refl

-- where the machine is when it finds a token too deep
record Stands {T : Type 0} (limit : ℕ) (rules : Rules T) (s : State T) (us rest : List Token) : Type 0 where
  before : List Token
  token : Token
  after : List Token
  last : State T
  cuts : rest ≡ token ∷ after
  whole : us ≡ before ++ token ∷ after
  comes : (vs : List Token) → go rules s (before ++ token ∷ vs) ≡ go rules last (token ∷ vs)
  deeps : (vs : List Token) → first_deep limit (trace rules last (token ∷ vs)) ≡ Some 0
      → first_deep limit (trace rules s (before ++ token ∷ vs)) ≡ Some (length before)
  over : too_deep limit (load rules last token (touches after)) ≡ true
  moves : step rules last token ≡ fault → ⊥

deep_is : {T : Type 0} (us vs : List Token) → ◌≡◌ {A = Verdict T} (Err (deep us)) (Err (deep vs)) → us ≡ vs
deep_is us vs h = cc

stands_here : {T : Type 0} (limit : ℕ) (rules : Rules T) (s : State T) (token : Token) (us rest : List Token) → token ∷ us ≡ rest
    → too_deep limit (load rules s token (touches us)) ≡ true
    → (step rules s token ≡ fault → ⊥) → Stands limit rules s (token ∷ us) rest
stands_here limit rules s token us rest e over moves = record {
  before = [];
  token = token;
  after = us;
  last = s;
  cuts = sym e;
  whole = refl;
  comes = λ vs. refl;
  deeps = λ vs h. h;
  over = over;
  moves = moves;
}

stands_after : {T : Type 0} (limit : ℕ) (rules : Rules T) (s s' : State T) (token : Token) (us rest : List Token) → step rules s token ≡ next s'
    → too_deep limit (load rules s token (touches us)) ≡ false
    → Stands limit rules s' us rest → Stands limit rules s (token ∷ us) rest
unfolding go trace
stands_after limit rules s s' token us rest e fine later = record {
  before = token ∷ later.before;
  token = later.token;
  after = later.after;
  last = later.last;
  cuts = later.cuts;
  whole = ap (λ xs. token ∷ xs) later.whole;
  comes = λ vs. rw e (later.comes vs);
  deeps = λ vs h.
      let same = ap touches later.whole ∙ touches_same later.before later.token later.after vs in
      let fine' = ap (λ f. too_deep limit (load rules s token f)) (sym same) ∙ fine in
      rw (e, fine') (ap one_on (later.deeps vs h));
  over = later.over;
  moves = later.moves;
}

stands : {T : Type 0} (limit : ℕ) (rules : Rules T) (s : State T) (us rest : List Token) → run limit rules s us ≡ Err (deep rest)
    → Stands limit rules s us rest
unfolding run
stands limit rules s [] rest h = cc
stands {T = T} limit rules s (token ∷ us) rest h =
    by_move (step rules s token) (too_deep limit (load rules s token (touches us))) refl refl h (λ s' h'. stands limit rules s' us rest h')
  where
    by_move : (m : Move T) (over : Bool) → step rules s token ≡ m → too_deep limit (load rules s token (touches us)) ≡ over
        → checked m over (λ s'. run limit rules s' us) (token ∷ us) us ≡ Err (deep rest)
        → ((s' : State T) → run limit rules s' us ≡ Err (deep rest) → Stands limit rules s' us rest) → Stands limit rules s (token ∷ us) rest
    by_move fault over e f h' later = cc
    by_move (next s') false e f h' later = stands_after limit rules s s' token us rest e f (later s' h')
    by_move (done t) false e f h' later = cc
    by_move (next s') true e f h' later =
        stands_here limit rules s token us rest (deep_is {T = T} (token ∷ us) rest h') f (λ x. let both = sym e ∙ x in cc)
    by_move (done t) true e f h' later =
        stands_here limit rules s token us rest (deep_is {T = T} (token ∷ us) rest h') f (λ x. let both = sym e ∙ x in cc)

-- with what follows, touching or not, the machine ends well
abbrev Ready : {T : Type 0} → Rules T → State T → Bool → Type 0
Ready rules s f = (vs : List Token) × (touches vs ≡ f) × Ends rules s vs

abbrev ReadyMove : {T : Type 0} → Rules T → Move T → Bool → Type 0
ReadyMove rules (next s) f = Ready rules s f
ReadyMove rules (done t) f = ⊥
ReadyMove rules fault f = Unit {0}

closing_apart : (token : Token) (us : List Token) → Closing token → touches (token ∷ us) ≡ false
closing_apart token us by_paren = refl
closing_apart token us by_bracket = refl
closing_apart token us by_brace = refl
closing_apart token us by_end = refl

close_apart : {T : Type 0} (k : List (Frame T)) → touches (close k) ≡ false
close_apart k = let found = close_first k in rw found.2 (closing_apart found.0 found.1 found.3)

ready_named : {T : Type 0} (rules : Rules T) (k : List (Frame T)) (bound at n : ℕ) (f : Bool) → Ready rules (named bound at n k) f
unfolding go close closer
ready_named rules k bound at n true =
    (Touching 0 ∷ Leaf 0 (variable 0) ∷ ParenEnd ∷ close k, refl, have_closes rules (open_frame bound (arguments_open (plain at n) []) ∷ k) 999 (rules.leaf 0 (variable 0)) 0)
ready_named rules k bound at n false = (close k, close_apart k, named_closes rules k bound at n)

ready_want : {T : Type 0} (rules : Rules T) (k : List (Frame T)) (bound : ℕ) (f : Bool) → Ready rules (want bound k) f
unfolding go close closer
ready_want rules k bound true =
    (Touching 0 ∷ Leaf 0 (variable 0) ∷ ParenEnd ∷ close k, refl, have_closes rules (open_frame bound (group_open 0) ∷ k) 1200 (rules.leaf 0 (variable 0)) 0)
ready_want rules k bound false = (Leaf 0 (variable 0) ∷ close k, refl, have_closes rules k bound (rules.leaf 0 (variable 0)) 0)

ready_takes : {T : Type 0} (rules : Rules T) (m : Move T) (f : Bool) → TakesOrFails m → ReadyMove rules m f
ready_takes rules m f (inl fails) = rw fails tt
ready_takes rules m f (inr takes) = rw takes.2 (ready_want rules takes.1 takes.0 f)

pub quiet_wrong : {T : Type 0} (rules : Rules T) (k : List (Frame T)) (bound : ℕ) (t : T) (p : ℕ) (token : Token)
    → step_have rules k bound t p token ≡ fault → have_load rules k bound t p token ≡ quiet
quiet_wrong rules [] bound t p token h = by_taken (taken rules bound p token) h
  where
    by_taken : (op : Option (ℕ × Infix)) → take_or op bound t [] (end_text t token) ≡ fault → load_or op (rules.depth t) quiet ≡ quiet
    by_taken None e = refl
    by_taken (Some op) e = cc
quiet_wrong rules (infix_frame b n q left ∷ k) bound t p token h =
    by_taken (taken rules bound p token) h (quiet_wrong rules k b (rules.infixed n left t) q token)
  where
    by_taken : (op : Option (ℕ × Infix))
        → take_or op bound t (infix_frame b n q left ∷ k) (step_have rules k b (rules.infixed n left t) q token) ≡ fault
        → (step_have rules k b (rules.infixed n left t) q token ≡ fault → have_load rules k b (rules.infixed n left t) q token ≡ quiet)
        → load_or op (rules.depth t) (have_load rules k b (rules.infixed n left t) q token) ≡ quiet
    by_taken None e below = below e
    by_taken (Some op) e below = cc
quiet_wrong rules (prefix_frame b at n q ∷ k) bound t p token h =
    by_taken (taken rules bound p token) h (quiet_wrong rules k b (rules.prefixed at n t) q token)
  where
    by_taken : (op : Option (ℕ × Infix))
        → take_or op bound t (prefix_frame b at n q ∷ k) (step_have rules k b (rules.prefixed at n t) q token) ≡ fault
        → (step_have rules k b (rules.prefixed at n t) q token ≡ fault → have_load rules k b (rules.prefixed at n t) q token ≡ quiet)
        → load_or op (rules.depth t) (have_load rules k b (rules.prefixed at n t) q token) ≡ quiet
    by_taken None e below = below e
    by_taken (Some op) e below = cc
quiet_wrong rules (open_frame b o ∷ k) bound t p token h = by_taken (taken rules bound p token) h
  where
    by_taken : (op : Option (ℕ × Infix)) → take_or op bound t (open_frame b o ∷ k) (ended b k (ends rules o t token)) ≡ fault
        → load_or op (rules.depth t) quiet ≡ quiet
    by_taken None e = refl
    by_taken (Some op) e = cc

touches_finish : {T : Type 0} (k : List (Frame T)) (bound at n : ℕ) (op : Prefix) (at' m : ℕ) → touches (finish (unsure bound at n op at' m k)) ≡ true
unfolding finish
touches_finish k bound at n op at' m = refl

module _ {T : Type 0} (limit : ℕ) (rules : Rules T) where
  ready_step_want : (k : List (Frame T)) (bound at m : ℕ) (f : Bool) → ReadyMove rules (step_want rules bound k (Name at m)) f
  ready_step_want k bound at m f = ready_named rules k bound at m f

  ready_apply : (can : Bool) (k : List (Frame T)) (bound at n : ℕ) (op : Prefix) (at' m : ℕ) (f : Bool)
      → ReadyMove rules (if can then step_want rules op.right (prefix_frame bound at n op.priority ∷ k) (Name at' m) else fault) f
  ready_apply true k bound at n op at' m f = ready_named rules (prefix_frame bound at n op.priority ∷ k) op.right at' m f
  ready_apply false k bound at n op at' m f = tt

  ready_unsure : (k : List (Frame T)) (bound at n : ℕ) (op : Prefix) (at' m r : ℕ) (kc : List (Frame T))
      → step_have rules k bound (rules.atom (plain at n)) 0 (Name at' m) ≡ next (want r kc)
      → Ready rules (unsure bound at n op at' m k) false
  ready_unsure k bound at n op at' m r kc e =
      let ready = ready_want rules kc r false in
      (ready.0, ready.1, ends_as rules (unsure bound at n op at' m k) (want r kc) ready.0 ready.0 (go-unsure rules k bound at n op at' m r kc ready.0 ready.1 e) ready.2)

  ready_infix_only : (k : List (Frame T)) (r : ℕ) → Ready rules (infix_only r k) false
  ready_infix_only k r =
      let ready = ready_want rules k r false in
      (ready.0, ready.1, ends_as rules (infix_only r k) (want r k) ready.0 ready.0 (go-infix_only rules k r ready.0 ready.1) ready.2)

  ready_fork : (can f : Bool) (k : List (Frame T)) (bound at n : ℕ) (op : Prefix) (at' m : ℕ)
      → TakesOrFails (step_have rules k bound (rules.atom (plain at n)) 0 (Name at' m)) → (h : ℕ)
      → too_deep limit (fork_load can f h (have_load rules k bound (rules.atom (plain at n)) 0 (Name at' m))) ≡ true
      → ReadyMove rules (fork can rules k bound at n op at' m) f
  ready_fork true true k bound at n op at' m cases h over =
      (finish (unsure bound at n op at' m k), touches_finish k bound at n op at' m, finishes rules (unsure bound at n op at' m k))
  ready_fork true false k bound at n op at' m (inl fails) h over = let f = rw (quiet_wrong rules k bound (rules.atom (plain at n)) 0 (Name at' m) fails) at over in cc
  ready_fork true false k bound at n op at' m (inr takes) h over = ready_unsure k bound at n op at' m takes.0 takes.1 takes.2
  ready_fork false f k bound at n op at' m (inl fails) h over = rw fails tt
  ready_fork false true k bound at n op at' m (inr takes) h over = cc
  ready_fork false false k bound at n op at' m (inr takes) h over = rw takes.2 (ready_infix_only takes.1 takes.0)

  ready_named_step : (op : Option Prefix) (k : List (Frame T)) (bound at n at' m : ℕ) (f : Bool) → rules.prefixes n ≡ op
      → too_deep limit (load rules (named bound at n k) (Name at' m) f) ≡ true → ReadyMove rules (step rules (named bound at n k) (Name at' m)) f
  ready_named_step None k bound at n at' m f e over = rw e (ready_takes rules _ f (name_cases rules k bound (rules.atom (plain at n)) 0 at' m))
  ready_named_step (Some op) k bound at n at' m f e over = by_alone (is_infix_alone rules m) refl
    where
      by_alone : (alone : Bool) → is_infix_alone rules m ≡ alone → ReadyMove rules (step rules (named bound at n k) (Name at' m)) f
      by_alone true a =
          rw (e, a) (ready_fork (nat_le op.priority bound) f k bound at n op at' m (name_cases rules k bound (rules.atom (plain at n)) 0 at' m) _ (rw (e, a) at over))
      by_alone false a = rw (e, a) (ready_apply (nat_le op.priority bound) k bound at n op at' m f)

  ready_then : (m : Move T) (at' l : ℕ) (f : Bool) → TakesOrFails m → ReadyMove rules (then_want rules m (Name at' l)) f
  ready_then m at' l f (inl fails) = rw fails tt
  ready_then m at' l f (inr takes) = rw takes.2 (ready_named rules takes.1 takes.0 at' l f)

  ready_step : (s : State T) (at m : ℕ) (f : Bool) → too_deep limit (load rules s (Name at m) f) ≡ true → ReadyMove rules (step rules s (Name at m)) f
  ready_step (want bound k) at m f over = ready_named rules k bound at m f
  ready_step (named bound at' n k) at m f over = ready_named_step (rules.prefixes n) k bound at' n at m f refl over
  ready_step (titled bound head k) at m f over = ready_takes rules _ f (name_cases rules k bound (rules.atom head) 0 at m)
  ready_step (bracketed bound at' k) at m f over = ready_named rules (open_frame bound (items_open at' []) ∷ k) 999 at m f
  ready_step (braced bound at' k) at m f over = ready_named rules (open_frame bound (curly_open at') ∷ k) 1200 at m f
  ready_step (have bound t p k) at m f over = ready_takes rules _ f (name_cases rules k bound t p at m)
  ready_step (unsure bound at' n op at'' l k) at m f over =
      ready_then (step_have rules k bound (rules.atom (plain at' n)) 0 (Name at'' l)) at m f (name_cases rules k bound (rules.atom (plain at' n)) 0 at'' l)
  ready_step (infix_only r k) at m f over = ready_named rules k r at m f

-- tokens that the machine ends well with after the token, which follow it as what is there
record Completes {T : Type 0} (rules : Rules T) (s : State T) (token : Token) (after : List Token) : Type 0 where
  vs : List Token
  t : T
  alike : FollowsAlike token vs after
  goes : go rules s (token ∷ vs) ≡ Ok (t, [])

completes : {T : Type 0} (limit : ℕ) (rules : Rules T) (s : State T) (token : Token) (after : List Token)
    → too_deep limit (load rules s token (touches after)) ≡ true
    → (step rules s token ≡ fault → ⊥) → Completes rules s token after
unfolding go
completes {T = T} limit rules s (Name at m) after over moves =
    by_move (step rules s (Name at m)) refl (ready_step limit rules s at m (touches after) over)
  where
    by_move : (x : Move T) → step rules s (Name at m) ≡ x → ReadyMove rules x (touches after) → Completes rules s (Name at m) after
    by_move (next s') e ready = record { vs = ready.0; t = ready.2.0; alike = λ h. ready.1; goes = rw e ready.2.1 }
    by_move (done t) e ready = absurd ready
    by_move fault e ready = absurd (moves e)
completes {T = T} limit rules s token after over moves = by_move (step rules s token) refl
  where
    by_move : (x : Move T) → step rules s token ≡ x → Completes rules s token after
    by_move (next s') e = let ready = finishes rules s' in record { vs = finish s'; t = ready.0; alike = λ h. cc; goes = rw e ready.1 }
    by_move (done t) e = record { vs = []; t = t; alike = λ h. cc; goes = rw e refl }
    by_move fault e = absurd (moves e)

module _ (infixes : ℕ → Option Infix) (prefixes : ℕ → Option Prefix) (comma : ℕ) (limit : ℕ) where
  abbrev rules : Rules Syntax
  rules = syntax_rules infixes prefixes comma

  -- where a step is not a fault, its load is met first
  deep_first : (s : State Syntax) (token : Token) (us : List Token) (f : Bool) → touches us ≡ f → (step rules s token ≡ fault → ⊥)
      → too_deep limit (load rules s token f) ≡ true → first_deep limit (trace rules s (token ∷ us)) ≡ Some 0
  unfolding trace
  deep_first s token us f e moves over = by_move (step rules s token) refl
    where
      by_move : (x : Move Syntax) → step rules s token ≡ x
          → first_deep limit (traced (step rules s token) (load rules s token (touches us)) (λ s'. trace rules s' us)) ≡ Some 0
      by_move (next s') e' = rw (e', e, over) refl
      by_move (done t) e' = rw (e', e, over) refl
      by_move fault e' = absurd (moves e')

  pub deep_run : (us rest : List Token) → run limit rules start us ≡ Err (deep rest) → IsDeep limit rules us rest
  deep_run us rest h =
      let at = stands limit rules start us rest h in
      let full = completes limit rules at.last at.token at.after at.over at.moves in
      let reading = sound rules (at.before ++ at.token ∷ full.vs) [] full.t (at.comes full.vs ∙ full.goes) in
      record {
        before = at.before;
        token = at.token;
        after = at.after;
        cuts = at.cuts;
        whole = at.whole;
        some = (full.vs, full.t, reading.0, full.alike, reading.1);
        every = λ vs t p alike term.
            ap (first_deep limit) (sym (traces infixes prefixes comma (at.before ++ at.token ∷ vs) [] t p term))
            ∙ at.deeps vs (deep_first at.last at.token vs (touches vs) refl at.moves (ap (too_deep limit) (load_alike rules at.last at.token (touches vs) (touches at.after) alike) ∙ at.over));
      }
