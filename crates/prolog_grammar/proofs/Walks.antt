-- The machine of the code gives what the machine of the laws gives.
use Rattle.std.proofs.Common.{◌≡◌, ℕ, suc, List, [], ◌∷◌, Option, Some, None, Err, Bool, true, false, if◌then◌else◌, nat_le, refl, ap, sym, ◌∙◌, inl, inr}
use Rattle.prolog_grammar.specs.Token.{Token, Leaf, Joined, Name, Paren, Touching, Bracket, BracketEnd, Brace, BraceEnd, End, touches}
use Rattle.prolog_grammar.specs.Rules.{Infix, Prefix, Head, plain, Rules, taken, is_infix_alone}
use Rattle.prolog_grammar.specs.Machine.{Frame, infix_frame, prefix_frame, open_frame, State, want, named, titled, bracketed, braced, have, unsure, infix_only, Move, next, done, fault, Ended, closed, goes_on, wrong, ends, ended, fork, take_or, end_text, step, step_have, step_want}
use Rattle.prolog_grammar.specs.Depth.{Load, quiet, operand, too_deep}
use Rattle.prolog_grammar.specs.Fault.{unexpected, Verdict}
use Rattle.prolog_grammar.specs.Run.{height, want_load, have_load, load_or, fork_load, load, checked, run}
use Rattle.prolog_grammar.specs.Walk.{Next, go_on, stuck, finished, unexpected_here, deep_here, judged, walk_want, walk_take, walk_ended, walk_text, walk_have, or_stuck, only_stuck, walk_fork, walk_step, walked, walk}
use Rattle.prolog_grammar.proofs.Moves.{TakesOrFails, name_cases}
use Rattle.prolog_grammar.proofs.DeepRuns.{quiet_wrong}

module _ {T : Type 0} (limit : ℕ) (rules : Rules T) where
  -- one frame: an operator that is taken, or what else there is
  judged_take : (op : Option (ℕ × Infix)) (bound : ℕ) (t : T) (k : List (Frame T)) (d : ℕ) (other : Next T) (m : Move T) (l : Load)
      → other ≡ judged m (too_deep limit l)
      → walk_take op (nat_le limit d) bound t k other ≡ judged (take_or op bound t k m) (too_deep limit (load_or op d l))
  judged_take None bound t k d other m l h = h
  judged_take (Some op) bound t k d other m l h = by_over (nat_le limit d)
    where
      by_over : (over : Bool)
          → walk_take (Some op) over bound t k other ≡ judged (next (want op.1.right (infix_frame bound op.0 op.1.priority t ∷ k))) over
      by_over true = refl
      by_over false = refl

  judged_ended : (b : ℕ) (k : List (Frame T)) (e : Ended T) → walk_ended b k e ≡ judged (ended b k e) false
  judged_ended b k (closed t) = refl
  judged_ended b k (goes_on o) = refl
  judged_ended b k wrong = refl

  judged_text : (t : T) (token : Token) → walk_text t token ≡ judged (end_text t token) false
  judged_text t End = refl
  judged_text t _ = refl

  judged_have : (k : List (Frame T)) (bound : ℕ) (t : T) (p : ℕ) (token : Token)
      → walk_have limit rules k bound t p token ≡ judged (step_have rules k bound t p token) (too_deep limit (have_load rules k bound t p token))
  judged_have [] bound t p token =
      judged_take (taken rules bound p token) bound t [] (rules.depth t) (walk_text t token) (end_text t token) quiet (judged_text t token)
  judged_have (infix_frame b n q left ∷ k) bound t p token =
      judged_take (taken rules bound p token) bound t _ (rules.depth t) _ (step_have rules k b (rules.infixed n left t) q token) (have_load rules k b (rules.infixed n left t) q token) (judged_have k b (rules.infixed n left t) q token)
  judged_have (prefix_frame b at n q ∷ k) bound t p token =
      judged_take (taken rules bound p token) bound t _ (rules.depth t) _ (step_have rules k b (rules.prefixed at n t) q token) (have_load rules k b (rules.prefixed at n t) q token) (judged_have k b (rules.prefixed at n t) q token)
  judged_have (open_frame b o ∷ k) bound t p token =
      judged_take (taken rules bound p token) bound t _ (rules.depth t) _ (ended b k (ends rules o t token)) quiet (judged_ended b k (ends rules o t token))

  judged_apply : (can : Bool) (bound at n : ℕ) (op : Prefix) (k : List (Frame T)) (token : Token)
      → (if can then walk_want limit rules op.right (prefix_frame bound at n op.priority ∷ k) token else unexpected_here)
      ≡ judged (if can then step_want rules op.right (prefix_frame bound at n op.priority ∷ k) token else fault) (too_deep limit (want_load (suc (height k)) token))
  judged_apply true bound at n op k token = refl
  judged_apply false bound at n op k token = refl

  checked_judged : (m : Move T) (over : Bool) (later : State T → Verdict T) (here rest : List Token)
      → checked m over later here rest ≡ walked (judged m over) later here rest
  checked_judged fault over later here rest = refl
  checked_judged (next s) true later here rest = refl
  checked_judged (next s) false later here rest = refl
  checked_judged (done t) true later here rest = refl
  checked_judged (done t) false later here rest = refl

  -- where no parenthesis touches, the machine goes on as from the operator
  run_unsure : (k : List (Frame T)) (bound at n : ℕ) (op : Prefix) (at' m r : ℕ) (kc : List (Frame T)) (us : List Token) → touches us ≡ false
      → step_have rules k bound (rules.atom (plain at n)) 0 (Name at' m) ≡ next (want r kc)
      → run limit rules (unsure bound at n op at' m k) us ≡ run limit rules (want r kc) us
  unfolding run
  run_unsure k bound at n op at' m r kc [] h takes = refl
  run_unsure k bound at n op at' m r kc (Touching at'' ∷ us) h takes = cc
  run_unsure k bound at n op at' m r kc (_ ∷ us) h takes = rw takes refl

  run_lost : (k : List (Frame T)) (bound at n : ℕ) (op : Prefix) (at' m : ℕ) (us : List Token) → touches us ≡ false
      → step_have rules k bound (rules.atom (plain at n)) 0 (Name at' m) ≡ fault
      → run limit rules (unsure bound at n op at' m k) us ≡ Err (unexpected us)
  unfolding run
  run_lost k bound at n op at' m [] h fails = refl
  run_lost k bound at n op at' m (Touching at'' ∷ us) h fails = cc
  run_lost k bound at n op at' m (_ ∷ us) h fails = rw fails refl

  run_infix_only : (k : List (Frame T)) (r : ℕ) (us : List Token) → touches us ≡ false
      → run limit rules (infix_only r k) us ≡ run limit rules (want r k) us
  unfolding run
  run_infix_only k r [] h = refl
  run_infix_only k r (Touching at ∷ us) h = cc
  run_infix_only k r (_ ∷ us) h = refl

  run_refused : (k : List (Frame T)) (r : ℕ) (us : List Token) → touches us ≡ true → run limit rules (infix_only r k) us ≡ Err (unexpected us)
  unfolding run
  run_refused k r [] h = cc
  run_refused k r (Touching at ∷ us) h = refl
  run_refused k r (_ ∷ us) h = cc

  -- the same call, whether its name was awaited or not
  run_call : (k : List (Frame T)) (bound at n : ℕ) (op : Prefix) (at' m : ℕ) (us : List Token) → touches us ≡ true
      → run limit rules (unsure bound at n op at' m k) us ≡ run limit rules (named op.right at' m (prefix_frame bound at n op.priority ∷ k)) us
  unfolding run
  run_call k bound at n op at' m [] h = cc
  run_call k bound at n op at' m (Touching at'' ∷ us) h = refl
  run_call k bound at n op at' m (_ ∷ us) h = cc

  -- one token, where the rest is walked as it is run
  forks : (can touch : Bool) (k : List (Frame T)) (bound at n : ℕ) (op : Prefix) (at' m : ℕ) (us : List Token) → touches us ≡ touch
      → TakesOrFails (step_have rules k bound (rules.atom (plain at n)) 0 (Name at' m))
      → ((s : State T) → run limit rules s us ≡ walk limit rules s us)
      → checked (fork can rules k bound at n op at' m)
      (too_deep limit (fork_load can touch (suc (height k)) (have_load rules k bound (rules.atom (plain at n)) 0 (Name at' m))))
      (λ s. run limit rules s us) (Name at' m ∷ us) us
      ≡ walked (walk_fork can touch limit rules k bound at n op at' m) (λ s. walk limit rules s us) (Name at' m ∷ us) us
  forks true true k bound at n op at' m us e cases same = by_over (too_deep limit (operand (suc (height k))))
    where
      by_over : (over : Bool) → checked (next (unsure bound at n op at' m k)) over (λ s. run limit rules s us) (Name at' m ∷ us) us
          ≡ walked (judged (next (named op.right at' m (prefix_frame bound at n op.priority ∷ k))) over) (λ s. walk limit rules s us) (Name at' m ∷ us) us
      by_over true = refl
      by_over false = run_call k bound at n op at' m us e ∙ same (named op.right at' m (prefix_frame bound at n op.priority ∷ k))
  forks false true k bound at n op at' m us e (inl fails) same = rw (judged_have k bound (rules.atom (plain at n)) 0 (Name at' m), fails) refl
  forks false true k bound at n op at' m us e (inr takes) same =
      rw (judged_have k bound (rules.atom (plain at n)) 0 (Name at' m), takes.2) (by_over (too_deep limit (have_load rules k bound (rules.atom (plain at n)) 0 (Name at' m))))
    where
      by_over : (over : Bool)
          → run limit rules (infix_only takes.0 takes.1) us ≡ walked (only_stuck (judged (next (want takes.0 takes.1)) over))
          (λ s. walk limit rules s us) (Name at' m ∷ us) us
      by_over true = run_refused takes.1 takes.0 us e
      by_over false = run_refused takes.1 takes.0 us e
  forks true false k bound at n op at' m us e (inl fails) same =
      rw (judged_have k bound (rules.atom (plain at n)) 0 (Name at' m), fails, quiet_have k bound at n at' m fails) (run_lost k bound at n op at' m us e fails)
    where
      quiet_have : (k : List (Frame T)) (bound at n at' m : ℕ) → step_have rules k bound (rules.atom (plain at n)) 0 (Name at' m) ≡ fault
          → have_load rules k bound (rules.atom (plain at n)) 0 (Name at' m) ≡ quiet
      quiet_have k bound at n at' m h = quiet_wrong rules k bound (rules.atom (plain at n)) 0 (Name at' m) h
  forks true false k bound at n op at' m us e (inr takes) same =
      rw (judged_have k bound (rules.atom (plain at n)) 0 (Name at' m), takes.2) (by_over (too_deep limit (have_load rules k bound (rules.atom (plain at n)) 0 (Name at' m))))
    where
      by_over : (over : Bool)
          → checked (next (unsure bound at n op at' m k)) over (λ s. run limit rules s us) (Name at' m ∷ us) us ≡ walked
          (or_stuck true (judged (next (want takes.0 takes.1)) over)) (λ s. walk limit rules s us) (Name at' m ∷ us) us
      by_over true = refl
      by_over false = run_unsure k bound at n op at' m takes.0 takes.1 us e takes.2 ∙ same (want takes.0 takes.1)
  forks false false k bound at n op at' m us e (inl fails) same = rw (judged_have k bound (rules.atom (plain at n)) 0 (Name at' m), fails) refl
  forks false false k bound at n op at' m us e (inr takes) same =
      rw (judged_have k bound (rules.atom (plain at n)) 0 (Name at' m), takes.2) (by_over (too_deep limit (have_load rules k bound (rules.atom (plain at n)) 0 (Name at' m))))
    where
      by_over : (over : Bool)
          → checked (next (infix_only takes.0 takes.1)) over (λ s. run limit rules s us) (Name at' m ∷ us) us ≡ walked
          (or_stuck false (judged (next (want takes.0 takes.1)) over)) (λ s. walk limit rules s us) (Name at' m ∷ us) us
      by_over true = refl
      by_over false = run_infix_only takes.1 takes.0 us e ∙ same (want takes.0 takes.1)

  -- all other steps are the same step
  plainly : (s : State T) (token : Token) (us : List Token)
      → walk_step limit rules s token (touches us) ≡ judged (step rules s token) (too_deep limit (load rules s token (touches us)))
      → ((s' : State T) → run limit rules s' us ≡ walk limit rules s' us)
      → run limit rules s (token ∷ us) ≡ walk limit rules s (token ∷ us)
  unfolding run walk
  plainly s token us e same =
      checked_judged (step rules s token) (too_deep limit (load rules s token (touches us))) (λ s'. run limit rules s' us) (token ∷ us) us
      ∙ later (judged (step rules s token) (too_deep limit (load rules s token (touches us))))
      ∙ ap (λ x. walked x (λ s'. walk limit rules s' us) (token ∷ us) us) (sym e)
    where
      later : (x : Next T) → walked x (λ s'. run limit rules s' us) (token ∷ us) us ≡ walked x (λ s'. walk limit rules s' us) (token ∷ us) us
      later (go_on s') = same s'
      later stuck = refl
      later (finished t) = refl
      later unexpected_here = refl
      later deep_here = refl

  -- a prefix operator's name
  walks_prefix : (op : Prefix) (k : List (Frame T)) (bound at n : ℕ) (token : Token) (us : List Token) → rules.prefixes n ≡ Some op
      → ((s' : State T) → run limit rules s' us ≡ walk limit rules s' us)
      → run limit rules (named bound at n k) (token ∷ us) ≡ walk limit rules (named bound at n k) (token ∷ us)
  unfolding run walk
  walks_prefix op k bound at n (Name at' m) us e same = by_alone (is_infix_alone rules m) refl
    where
      by_alone : (alone : Bool) → is_infix_alone rules m ≡ alone
          → run limit rules (named bound at n k) (Name at' m ∷ us) ≡ walk limit rules (named bound at n k) (Name at' m ∷ us)
      by_alone true a =
          rw (e, a) (forks (nat_le op.priority bound) (touches us) k bound at n op at' m us refl (name_cases rules k bound (rules.atom (plain at n)) 0 at' m) same)
      by_alone false a =
          plainly (named bound at n k) (Name at' m) us (rw (e, a) (judged_apply (nat_le op.priority bound) bound at n op k (Name at' m))) same
  walks_prefix op k bound at n (Touching at') us e same = same _
  walks_prefix op k bound at n (Joined at' i) us e same = same _
  walks_prefix op k bound at n (Leaf at' v) us e same =
      plainly (named bound at n k) (Leaf at' v) us (rw e (judged_apply (nat_le op.priority bound) bound at n op k (Leaf at' v))) same
  walks_prefix op k bound at n (Paren at') us e same =
      plainly (named bound at n k) (Paren at') us (rw e (judged_apply (nat_le op.priority bound) bound at n op k (Paren at'))) same
  walks_prefix op k bound at n (Bracket at') us e same =
      plainly (named bound at n k) (Bracket at') us (rw e (judged_apply (nat_le op.priority bound) bound at n op k (Bracket at'))) same
  walks_prefix op k bound at n (Brace at') us e same =
      plainly (named bound at n k) (Brace at') us (rw e (judged_apply (nat_le op.priority bound) bound at n op k (Brace at'))) same
  walks_prefix op k bound at n token us e same =
      plainly (named bound at n k) token us (rw e (judged_have k bound (rules.atom (plain at n)) 0 token)) same

  walks_plain : (k : List (Frame T)) (bound at n : ℕ) (token : Token) (us : List Token) → rules.prefixes n ≡ None
      → ((s' : State T) → run limit rules s' us ≡ walk limit rules s' us)
      → run limit rules (named bound at n k) (token ∷ us) ≡ walk limit rules (named bound at n k) (token ∷ us)
  unfolding run walk
  walks_plain k bound at n (Touching at') us e same = same _
  walks_plain k bound at n (Joined at' i) us e same = same _
  walks_plain k bound at n token us e same = plainly (named bound at n k) token us (rw e (judged_have k bound (rules.atom (plain at n)) 0 token)) same

  walks_titled : (k : List (Frame T)) (bound : ℕ) (h : Head) (token : Token) (us : List Token)
      → ((s' : State T) → run limit rules s' us ≡ walk limit rules s' us)
      → run limit rules (titled bound h k) (token ∷ us) ≡ walk limit rules (titled bound h k) (token ∷ us)
  unfolding run walk
  walks_titled k bound h (Touching at') us same = same _
  walks_titled k bound h token us same = plainly (titled bound h k) token us (judged_have k bound (rules.atom h) 0 token) same

  walks_bracketed : (k : List (Frame T)) (bound at : ℕ) (token : Token) (us : List Token)
      → ((s' : State T) → run limit rules s' us ≡ walk limit rules s' us)
      → run limit rules (bracketed bound at k) (token ∷ us) ≡ walk limit rules (bracketed bound at k) (token ∷ us)
  unfolding run walk
  walks_bracketed k bound at BracketEnd us same = same _
  walks_bracketed k bound at token us same = plainly (bracketed bound at k) token us refl same

  walks_braced : (k : List (Frame T)) (bound at : ℕ) (token : Token) (us : List Token)
      → ((s' : State T) → run limit rules s' us ≡ walk limit rules s' us)
      → run limit rules (braced bound at k) (token ∷ us) ≡ walk limit rules (braced bound at k) (token ∷ us)
  unfolding run walk
  walks_braced k bound at BraceEnd us same = same _
  walks_braced k bound at token us same = plainly (braced bound at k) token us refl same

  walks_named : (op : Option Prefix) (k : List (Frame T)) (bound at n : ℕ) (token : Token) (us : List Token) → rules.prefixes n ≡ op
      → ((s' : State T) → run limit rules s' us ≡ walk limit rules s' us)
      → run limit rules (named bound at n k) (token ∷ us) ≡ walk limit rules (named bound at n k) (token ∷ us)
  walks_named None k bound at n token us e same = walks_plain k bound at n token us e same
  walks_named (Some op) k bound at n token us e same = walks_prefix op k bound at n token us e same

  walks_state : (s : State T) (token : Token) (us : List Token) → ((s' : State T) → run limit rules s' us ≡ walk limit rules s' us)
      → run limit rules s (token ∷ us) ≡ walk limit rules s (token ∷ us)
  walks_state (want bound k) token us same = plainly (want bound k) token us refl same
  walks_state (named bound at n k) token us same = walks_named (rules.prefixes n) k bound at n token us refl same
  walks_state (titled bound h k) token us same = walks_titled k bound h token us same
  walks_state (bracketed bound at k) token us same = walks_bracketed k bound at token us same
  walks_state (braced bound at k) token us same = walks_braced k bound at token us same
  walks_state (have bound t p k) token us same = plainly (have bound t p k) token us (judged_have k bound t p token) same
  walks_state (unsure bound at n op at' m k) token us same = plainly (unsure bound at n op at' m k) token us refl same
  walks_state (infix_only r k) token us same = plainly (infix_only r k) token us refl same

  pub walks : (us : List Token) (s : State T) → run limit rules s us ≡ walk limit rules s us
  unfolding run walk
  walks [] s = refl
  walks (token ∷ us) s = walks_state s token us (λ s'. walks us s')
