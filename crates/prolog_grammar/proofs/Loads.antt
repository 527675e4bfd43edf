-- The loads of a reading are those that the machine meets.
use Rattle.std.proofs.Common.{◌≡◌, ℕ, suc, List, [], ◌∷◌, ◌++◌, Option, Some, None, Ok, Bool, true, false, if◌then◌else◌, nat_le, refl, ap, sym, ◌∙◌, inl, inr}
use Rattle.prolog_grammar.specs.Token.{Token, Leaf, Joined, Name, Paren, Touching, ParenEnd, Bracket, BracketEnd, Brace, BraceEnd, Comma, Bar, End, touches}
use Rattle.prolog_grammar.specs.Rules.{Infix, Prefix, Head, plain, Rules, taken, is_infix_alone}
use Rattle.prolog_grammar.specs.Grammar.{TermOf}
use Rattle.prolog_grammar.specs.Syntax.{Syntax, atom, prefixed, infixed, row, depth, syntax_rules}
use Rattle.prolog_grammar.specs.Machine.{Outcome, Open, group_open, curly_open, arguments_open, items_open, tail_open, Frame, infix_frame, prefix_frame, open_frame, State, want, named, titled, bracketed, braced, have, unsure, infix_only, Move, next, done, fault, ends, ended, then_want, fork, apply, take_or, end_text, step, step_have, step_want, moved, go, start}
use Rattle.prolog_grammar.specs.Depth.{Load, quiet, operand, operator, past, head_loads, loads, loads_of_arguments, loads_of_items, clause_loads}
use Rattle.prolog_grammar.specs.Run.{items_past, height, want_load, load_or, have_load, fork_load, move_load, load}
use Rattle.prolog_grammar.proofs.Moves.{TakesOrFails, name_cases, no_infix_touching, no_call_apart}
use Rattle.prolog_grammar.proofs.Complete.{complete}

-- the loads that the machine meets
abbrev pub traced : {T : Type 0} → Move T → Load → (State T → List Load) → List Load
traced (next s) l go_on = l ∷ go_on s
traced (done t) l go_on = l ∷ []
traced fault l go_on = []

unfoldable pub trace : {T : Type 0} → Rules T → State T → List Token → List Load
trace rules s [] = []
trace rules s (token ∷ us) = traced (step rules s token) (load rules s token (touches us)) (λ s'. trace rules s' us)

-- the tokens of what is open
abbrev opened : ℕ → Open Syntax → List Load → List Load
opened h (group_open at) rest = operand h ∷ rest
opened h (curly_open at) rest = operand h ∷ rest
opened h (arguments_open head ts) rest = head_loads h head (quiet ∷ loads_of_arguments (suc h) (row ts) rest)
opened h (items_open at ts) rest = operand h ∷ loads_of_items (suc h) (row ts) rest
opened h (tail_open at ts) rest = operand h ∷ loads_of_items (suc h) (row ts) rest

abbrev before : List (Frame Syntax) → List Load → List Load
before [] rest = rest
before (infix_frame b n q left ∷ k) rest = before k (loads (height k) left (operator (depth left) ∷ rest))
before (prefix_frame b at n q ∷ k) rest = before k (operand (height k) ∷ rest)
before (open_frame b o ∷ k) rest = before k (opened (height k) o rest)

abbrev move_before : Move Syntax → List Load → List Load
move_before (next (want r k)) rest = before k rest
move_before _ rest = []

-- All tokens that a state has read, where a parenthesis touches the last one or none does.
abbrev read : Rules Syntax → State Syntax → Bool → List Load → List Load
read rules (want bound k) touch rest = before k rest
read rules (named bound at n k) touch rest = before k (operand (height k) ∷ rest)
read rules (titled bound head k) touch rest = before k (head_loads (height k) head rest)
read rules (bracketed bound at k) touch rest = before k (operand (height k) ∷ rest)
read rules (braced bound at k) touch rest = before k (operand (height k) ∷ rest)
read rules (have bound t p k) touch rest = before k (loads (height k) t rest)
read rules (unsure bound at n op at' m k) true rest = before k (operand (height k) ∷ operand (suc (height k)) ∷ rest)
read rules (unsure bound at n op at' m k) false rest = move_before (step_have rules k bound (rules.atom (plain at n)) 0 (Name at' m)) rest
read rules (infix_only r k) touch rest = before k rest

-- the next token, touching or not, does not make the state one that is stuck
abbrev Lives : Rules Syntax → State Syntax → Bool → Type 0
Lives rules (unsure bound at n op at' m k) false =
    (r : ℕ) × (kc : List (Frame Syntax)) × (step_have rules k bound (rules.atom (plain at n)) 0 (Name at' m) ≡ next (want r kc))
Lives rules (infix_only r k) true = ⊥
Lives rules _ touch = Unit {0}

-- what a move has read
abbrev Told : Rules Syntax → Move Syntax → Bool → List Load → List Load → Type 0
Told rules (next s) touch rest all = Lives rules s touch → read rules s touch rest ≡ all
Told rules (done t) touch rest all = loads 0 t (quiet ∷ rest) ≡ all
Told rules fault touch rest all = Unit {0}

one_more_argument : (h : ℕ) (ts : List Syntax) (t : Syntax) (rest : List Load)
    → loads_of_arguments h (row (ts ++ t ∷ [])) rest ≡ loads_of_arguments h (row ts) (loads h t (quiet ∷ rest))
one_more_argument h [] t rest = refl
one_more_argument h (u ∷ ts) t rest = ap (λ ls. loads h u (quiet ∷ ls)) (one_more_argument h ts t rest)

one_more_item : (h : ℕ) (ts : List Syntax) (t : Syntax) (rest : List Load)
    → loads_of_items h (row (ts ++ t ∷ [])) rest ≡ loads_of_items h (row ts) (loads (items_past ts h) t (quiet ∷ rest))
one_more_item h [] t rest = refl
one_more_item h (u ∷ ts) t rest = ap (λ ls. loads h u (quiet ∷ ls)) (one_more_item (suc h) ts t rest)

past_row : (ts : List Syntax) (h : ℕ) → past (row ts) h ≡ items_past ts h
past_row [] h = refl
past_row (t ∷ ts) h = past_row ts (suc h)

module _ (infixes : ℕ → Option Infix) (prefixes : ℕ → Option Prefix) (comma : ℕ) where
  abbrev rules : Rules Syntax
  rules = syntax_rules infixes prefixes comma

  -- a term and the token that ends it inside what is open
  told_ended : (k : List (Frame Syntax)) (b : ℕ) (o : Open Syntax) (t : Syntax) (token : Token) (touch : Bool) (rest : List Load)
      → Told rules (ended b k (ends rules o t token)) touch rest (before (open_frame b o ∷ k) (loads (height (open_frame b o ∷ k)) t (quiet ∷ rest)))
  told_ended k b (group_open at) t ParenEnd touch rest = λ lives. refl
  told_ended k b (group_open at) t _ touch rest = tt
  told_ended k b (curly_open at) t BraceEnd touch rest = λ lives. refl
  told_ended k b (curly_open at) t _ touch rest = tt
  told_ended k b (arguments_open head ts) t ParenEnd touch rest =
      λ lives. ap (λ ls. before k (head_loads (height k) head (quiet ∷ ls))) (one_more_argument (suc (height k)) ts t rest)
  told_ended k b (arguments_open head ts) t Comma touch rest =
      λ lives. ap (λ ls. before k (head_loads (height k) head (quiet ∷ ls))) (one_more_argument (suc (height k)) ts t rest)
  told_ended k b (arguments_open head ts) t _ touch rest = tt
  told_ended k b (items_open at ts) t BracketEnd touch rest =
      λ lives. ap (λ ls. before k (operand (height k) ∷ ls)) (one_more_item (suc (height k)) ts t rest)
  told_ended k b (items_open at ts) t Comma touch rest =
      λ lives. ap (λ ls. before k (operand (height k) ∷ ls)) (one_more_item (suc (height k)) ts t rest)
  told_ended k b (items_open at ts) t Bar touch rest =
      λ lives. ap (λ ls. before k (operand (height k) ∷ ls)) (one_more_item (suc (height k)) ts t rest)
  told_ended k b (items_open at ts) t _ touch rest = tt
  told_ended k b (tail_open at ts) t BracketEnd touch rest =
      λ lives. ap (λ h. before k (operand (height k) ∷ loads_of_items (suc (height k)) (row ts) (loads h t (quiet ∷ rest)))) (past_row ts (suc (height k)))
  told_ended k b (tail_open at ts) t _ touch rest = tt

  told_text : (t : Syntax) (token : Token) (touch : Bool) (rest : List Load) → Told rules (end_text t token) touch rest (loads 0 t (quiet ∷ rest))
  told_text t End touch rest = refl
  told_text t _ touch rest = tt

  told_taken : (op : Option (ℕ × Infix)) (bound : ℕ) (t : Syntax) (k : List (Frame Syntax)) (other : Move Syntax) (l : Load) (touch : Bool)
      (rest : List Load)
      → Told rules other touch rest (before k (loads (height k) t (l ∷ rest)))
      → Told rules (take_or op bound t k other) touch rest (before k (loads (height k) t (load_or op (depth t) l ∷ rest)))
  told_taken None bound t k other l touch rest h = h
  told_taken (Some op) bound t k other l touch rest h = λ lives. refl

  told_have : (k : List (Frame Syntax)) (bound : ℕ) (t : Syntax) (p : ℕ) (token : Token) (touch : Bool) (rest : List Load)
      → Told rules (step_have rules k bound t p token) touch rest (before k (loads (height k) t (have_load rules k bound t p token ∷ rest)))
  told_have [] bound t p token touch rest =
      told_taken (taken rules bound p token) bound t [] (end_text t token) quiet touch rest (told_text t token touch rest)
  told_have (infix_frame b n q left ∷ k) bound t p token touch rest =
      told_taken (taken rules bound p token) bound t (infix_frame b n q left ∷ k) (step_have rules k b (infixed n left t) q token) (have_load rules k b (infixed n left t) q token) touch rest
      (told_have k b (infixed n left t) q token touch rest)
  told_have (prefix_frame b at n q ∷ k) bound t p token touch rest =
      told_taken (taken rules bound p token) bound t (prefix_frame b at n q ∷ k) (step_have rules k b (prefixed at n t) q token) (have_load rules k b (prefixed at n t) q token) touch rest
      (told_have k b (prefixed at n t) q token touch rest)
  told_have (open_frame b o ∷ k) bound t p token touch rest =
      told_taken (taken rules bound p token) bound t (open_frame b o ∷ k) (ended b k (ends rules o t token)) quiet touch rest (told_ended k b o t token touch rest)

  told_want : (k : List (Frame Syntax)) (bound : ℕ) (token : Token) (touch : Bool) (rest : List Load)
      → Told rules (step_want rules bound k token) touch rest (before k (want_load (height k) token ∷ rest))
  told_want k bound (Leaf at v) touch rest = λ lives. refl
  told_want k bound (Joined at i) touch rest = λ lives. refl
  told_want k bound (Name at n) touch rest = λ lives. refl
  told_want k bound (Paren at) touch rest = λ lives. refl
  told_want k bound (Touching at) touch rest = λ lives. refl
  told_want k bound (Bracket at) touch rest = λ lives. refl
  told_want k bound (Brace at) touch rest = λ lives. refl
  told_want k bound _ touch rest = tt

  infix_told : (m : Move Syntax) (r : ℕ) (kc : List (Frame Syntax)) (touch : Bool) (rest all : List Load) → m ≡ next (want r kc)
      → Told rules m touch rest all → move_before m rest ≡ all
  infix_told m r kc touch rest all e h = rw e ((rw e at h) tt)

  told_apply : (can : Bool) (k : List (Frame Syntax)) (bound at n : ℕ) (op : Prefix) (token : Token) (touch : Bool) (rest : List Load)
      → Told rules (if can then step_want rules op.right (prefix_frame bound at n op.priority ∷ k) token else fault) touch rest
      (before k (operand (height k) ∷ want_load (suc (height k)) token ∷ rest))
  told_apply true k bound at n op token touch rest = told_want (prefix_frame bound at n op.priority ∷ k) op.right token touch rest
  told_apply false k bound at n op token touch rest = tt

  told_fork : (can touch : Bool) (k : List (Frame Syntax)) (bound at n : ℕ) (op : Prefix) (at' m : ℕ) (rest : List Load)
      → TakesOrFails (step_have rules k bound (atom (plain at n)) 0 (Name at' m))
      → Told rules (fork can rules k bound at n op at' m) touch rest
      (before k (operand (height k) ∷ fork_load can touch (suc (height k)) (have_load rules k bound (atom (plain at n)) 0 (Name at' m)) ∷ rest))
  told_fork true true k bound at n op at' m rest cases = λ lives. refl
  told_fork true false k bound at n op at' m rest cases =
      λ lives. infix_told _ lives.0 lives.1 false rest _ lives.2 (told_have k bound (atom (plain at n)) 0 (Name at' m) false rest)
  told_fork false touch k bound at n op at' m rest (inl fails) = rw fails tt
  told_fork false true k bound at n op at' m rest (inr takes) = rw takes.2 (λ lives. absurd lives)
  told_fork false false k bound at n op at' m rest (inr takes) =
      let told = rw takes.2 at (told_have k bound (atom (plain at n)) 0 (Name at' m) false rest) in
      rw takes.2 (λ lives. told tt)

  told_name : (alone touch : Bool) (k : List (Frame Syntax)) (bound at n : ℕ) (op : Prefix) (at' m : ℕ) (rest : List Load)
      → Told rules
      (if alone then fork (nat_le op.priority bound) rules k bound at n op at' m else apply rules bound at n op k (Name at' m)) touch rest
      (before k (operand (height k) ∷ (if alone then fork_load (nat_le op.priority bound) touch (suc (height k)) (have_load rules k bound (atom (plain at n)) 0 (Name at' m)) else operand (suc (height k))) ∷ rest))
  told_name true touch k bound at n op at' m rest =
      told_fork (nat_le op.priority bound) touch k bound at n op at' m rest (name_cases rules k bound (atom (plain at n)) 0 at' m)
  told_name false touch k bound at n op at' m rest = told_apply (nat_le op.priority bound) k bound at n op (Name at' m) touch rest

  told_prefix : (op : Prefix) (k : List (Frame Syntax)) (bound at n : ℕ) (token : Token) (touch : Bool) (rest : List Load)
      → prefixes n ≡ Some op
      → Told rules (step rules (named bound at n k) token) touch rest
      (before k (operand (height k) ∷ load rules (named bound at n k) token touch ∷ rest))
  told_prefix op k bound at n (Touching at') touch rest e = λ lives. refl
  told_prefix op k bound at n (Joined at' i) touch rest e = λ lives. refl
  told_prefix op k bound at n (Name at' m) touch rest e = rw e (told_name (is_infix_alone rules m) touch k bound at n op at' m rest)
  told_prefix op k bound at n (Leaf at' v) touch rest e = rw e (told_apply (nat_le op.priority bound) k bound at n op (Leaf at' v) touch rest)
  told_prefix op k bound at n (Paren at') touch rest e = rw e (told_apply (nat_le op.priority bound) k bound at n op (Paren at') touch rest)
  told_prefix op k bound at n (Bracket at') touch rest e = rw e (told_apply (nat_le op.priority bound) k bound at n op (Bracket at') touch rest)
  told_prefix op k bound at n (Brace at') touch rest e = rw e (told_apply (nat_le op.priority bound) k bound at n op (Brace at') touch rest)
  told_prefix op k bound at n ParenEnd touch rest e = rw e (told_have k bound (atom (plain at n)) 0 ParenEnd touch rest)
  told_prefix op k bound at n BracketEnd touch rest e = rw e (told_have k bound (atom (plain at n)) 0 BracketEnd touch rest)
  told_prefix op k bound at n BraceEnd touch rest e = rw e (told_have k bound (atom (plain at n)) 0 BraceEnd touch rest)
  told_prefix op k bound at n Comma touch rest e = rw e (told_have k bound (atom (plain at n)) 0 Comma touch rest)
  told_prefix op k bound at n Bar touch rest e = rw e (told_have k bound (atom (plain at n)) 0 Bar touch rest)
  told_prefix op k bound at n End touch rest e = rw e (told_have k bound (atom (plain at n)) 0 End touch rest)

  told_plain : (k : List (Frame Syntax)) (bound at n : ℕ) (token : Token) (touch : Bool) (rest : List Load)
      → prefixes n ≡ None
      → Told rules (step rules (named bound at n k) token) touch rest
      (before k (operand (height k) ∷ load rules (named bound at n k) token touch ∷ rest))
  told_plain k bound at n (Touching at') touch rest e = λ lives. refl
  told_plain k bound at n (Joined at' i) touch rest e = λ lives. refl
  told_plain k bound at n token touch rest e = rw e (told_have k bound (atom (plain at n)) 0 token touch rest)

  told_named : (op : Option Prefix) (k : List (Frame Syntax)) (bound at n : ℕ) (token : Token) (touch : Bool) (rest : List Load)
      → prefixes n ≡ op
      → Told rules (step rules (named bound at n k) token) touch rest
      (before k (operand (height k) ∷ load rules (named bound at n k) token touch ∷ rest))
  told_named None k bound at n token touch rest e = told_plain k bound at n token touch rest e
  told_named (Some op) k bound at n token touch rest e = told_prefix op k bound at n token touch rest e

  told_titled : (k : List (Frame Syntax)) (bound : ℕ) (head : Head) (token : Token) (touch : Bool) (rest : List Load)
      → Told rules (step rules (titled bound head k) token) touch rest
      (before k (head_loads (height k) head (load rules (titled bound head k) token touch ∷ rest)))
  told_titled k bound head (Touching at) touch rest = λ lives. refl
  told_titled k bound head token touch rest = told_have k bound (atom head) 0 token touch rest

  told_bracketed : (k : List (Frame Syntax)) (bound at : ℕ) (token : Token) (touch : Bool) (rest : List Load)
      → Told rules (step rules (bracketed bound at k) token) touch rest
      (before k (operand (height k) ∷ load rules (bracketed bound at k) token touch ∷ rest))
  told_bracketed k bound at BracketEnd touch rest = λ lives. refl
  told_bracketed k bound at token touch rest = told_want (open_frame bound (items_open at []) ∷ k) 999 token touch rest

  told_braced : (k : List (Frame Syntax)) (bound at : ℕ) (token : Token) (touch : Bool) (rest : List Load)
      → Told rules (step rules (braced bound at k) token) touch rest
      (before k (operand (height k) ∷ load rules (braced bound at k) token touch ∷ rest))
  told_braced k bound at BraceEnd touch rest = λ lives. refl
  told_braced k bound at token touch rest = told_want (open_frame bound (curly_open at) ∷ k) 1200 token touch rest

  told_then : (m : Move Syntax) (token : Token) (touch : Bool) (rest : List Load) → TakesOrFails m
      → Told rules (then_want rules m token) touch rest (move_before m (move_load m token ∷ rest))
  told_then m token touch rest (inl fails) = rw fails tt
  told_then m token touch rest (inr takes) = rw takes.2 (told_want takes.1 takes.0 token touch rest)

  told_unsure : (k : List (Frame Syntax)) (bound at n : ℕ) (op : Prefix) (at' m : ℕ) (token : Token) (us : List Token) (touch : Bool)
      (rest : List Load)
      → Told rules (step rules (unsure bound at n op at' m k) token) touch rest
      (read rules (unsure bound at n op at' m k) (touches (token ∷ us)) (load rules (unsure bound at n op at' m k) token touch ∷ rest))
  told_unsure k bound at n op at' m (Touching at'') us touch rest = λ lives. refl
  told_unsure k bound at n op at' m token us touch rest =
      told_then (step_have rules k bound (atom (plain at n)) 0 (Name at' m)) token touch rest (name_cases rules k bound (atom (plain at n)) 0 at' m)

  told_infix_only : (k : List (Frame Syntax)) (r : ℕ) (token : Token) (touch : Bool) (rest : List Load)
      → Told rules (step rules (infix_only r k) token) touch rest (before k (load rules (infix_only r k) token touch ∷ rest))
  told_infix_only k r (Touching at) touch rest = tt
  told_infix_only k r token touch rest = told_want k r token touch rest

  told_step : (s : State Syntax) (token : Token) (us : List Token) (touch : Bool) (rest : List Load)
      → Told rules (step rules s token) touch rest (read rules s (touches (token ∷ us)) (load rules s token touch ∷ rest))
  told_step (want bound k) token us touch rest = told_want k bound token touch rest
  told_step (named bound at n k) token us touch rest = told_named (prefixes n) k bound at n token touch rest refl
  told_step (titled bound head k) token us touch rest = told_titled k bound head token touch rest
  told_step (bracketed bound at k) token us touch rest = told_bracketed k bound at token touch rest
  told_step (braced bound at k) token us touch rest = told_braced k bound at token touch rest
  told_step (have bound t p k) token us touch rest = told_have k bound t p token touch rest
  told_step (unsure bound at n op at' m k) token us touch rest = told_unsure k bound at n op at' m token us touch rest
  told_step (infix_only r k) token us touch rest = told_infix_only k r token touch rest

  -- a state from which the machine ends well is not stuck
  lives_by : (bound at n : ℕ) (op : Prefix) (at' m : ℕ) (k : List (Frame Syntax)) (us : List Token) (x : Syntax × List Token) (touch : Bool)
      → touches us ≡ touch
      → TakesOrFails (step_have rules k bound (atom (plain at n)) 0 (Name at' m)) → go rules (unsure bound at n op at' m k) us ≡ Ok x
      → Lives rules (unsure bound at n op at' m k) touch
  lives_by bound at n op at' m k us x true e cases h = tt
  lives_by bound at n op at' m k us x false e (inl fails) h = absurd (no_call_apart rules k bound at n op at' m us x e fails h)
  lives_by bound at n op at' m k us x false e (inr takes) h = takes

  lives_infix : (r : ℕ) (k : List (Frame Syntax)) (us : List Token) (x : Syntax × List Token) (touch : Bool) → touches us ≡ touch
      → go rules (infix_only r k) us ≡ Ok x → Lives rules (infix_only r k) touch
  lives_infix r k us x true e h = no_infix_touching rules k r us x e h
  lives_infix r k us x false e h = tt

  lives : (s : State Syntax) (us : List Token) (x : Syntax × List Token) → go rules s us ≡ Ok x → Lives rules s (touches us)
  lives (unsure bound at n op at' m k) us x h =
      lives_by bound at n op at' m k us x (touches us) refl (name_cases rules k bound (atom (plain at n)) 0 at' m) h
  lives (infix_only r k) us x h = lives_infix r k us x (touches us) refl h
  lives _ us x h = tt

  ok_is : (x y : Syntax × List Token) → ◌≡◌ {A = Outcome Syntax} (Ok x) (Ok y) → x ≡ y
  ok_is x y h = cc

  traces_from : (s : State Syntax) (us : List Token) (t : Syntax) (rest : List Token) → go rules s us ≡ Ok (t, rest)
      → clause_loads t ≡ read rules s (touches us) (trace rules s us)
  unfolding go trace
  traces_from s [] t rest h = cc
  traces_from s (token ∷ us) t rest h = by_move (step rules s token) refl h (λ s' h'. traces_from s' us t rest h') (told_step s token us (touches us))
    where
      by_move : (m : Move Syntax) → step rules s token ≡ m → moved m (λ s'. go rules s' us) (token ∷ us) us ≡ Ok (t, rest)
          → ((s' : State Syntax) → go rules s' us ≡ Ok (t, rest) → clause_loads t ≡ read rules s' (touches us) (trace rules s' us))
          →
          ((rest' : List Load) → Told rules (step rules s token) (touches us) rest' (read rules s (touches (token ∷ us)) (load rules s token (touches us) ∷ rest')))
          → clause_loads t ≡ read rules s (touches (token ∷ us))
          (traced (step rules s token) (load rules s token (touches us)) (λ s'. trace rules s' us))
      by_move (next s') e f later told = rw e (later s' f ∙ (rw e at (told (trace rules s' us))) (lives s' us (t, rest) f))
      by_move (done t') e f later told =
          rw e (ap clause_loads (sym (ap (λ (x : Syntax × List Token). x.0) (ok_is (t', us) (t, rest) f))) ∙ (rw e at (told [])))
      by_move fault e f later told = cc

  pub traces : (us rest : List Token) (t : Syntax) (p : ℕ) → TermOf rules us (End ∷ rest) 1200 t p → trace rules start us ≡ clause_loads t
  traces us rest t p h = sym (traces_from start us t rest (complete h))
