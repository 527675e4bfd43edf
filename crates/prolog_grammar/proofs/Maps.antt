-- The machine never looks into what it builds: where one kind of tree is made of another, so is the verdict.
use Rattle.std.proofs.Common.{◌≡◌, ℕ, suc, List, [], ◌∷◌, ◌++◌, map, Option, Some, None, Bool, true, false, if◌then◌else◌, nat_le, refl, ap, sym, ◌∙◌, inl, inr}
use Rattle.prolog_grammar.specs.Token.{Value, integer, Token, Leaf, Joined, Name, Paren, Touching, ParenEnd, Bracket, BracketEnd, Brace, BraceEnd, Comma, Bar, End, touches}
use Rattle.prolog_grammar.specs.Rules.{Infix, Prefix, Head, plain, Rules, taken, is_infix_alone}
use Rattle.prolog_grammar.specs.Machine.{Open, group_open, curly_open, arguments_open, items_open, tail_open, inside, Frame, infix_frame, prefix_frame, open_frame, State, want, named, titled, bracketed, braced, have, unsure, infix_only, Move, next, done, fault, Ended, closed, goes_on, wrong, ends, ended, take_or, end_text, step_have, step_want}
use Rattle.prolog_grammar.specs.Depth.{too_deep}
use Rattle.prolog_grammar.specs.Run.{items_past, inside_height, height, want_load}
use Rattle.prolog_grammar.specs.Walk.{Next, go_on, stuck, finished, unexpected_here, deep_here, judged, walk_want, walk_take, walk_ended, walk_text, walk_have, or_stuck, only_stuck, walk_fork, walk_step, walked, walk, verdict_map}
use Rattle.prolog_grammar.proofs.Moves.{TakesOrFails, name_cases}

pub map_option : {S T : Type 0} → (S → T) → Option S → Option T
map_option f None = None
map_option f (Some x) = Some (f x)

-- f makes the trees of b of those of a, as deep below the limit
pub record Maps {S T : Type 0} (limit : ℕ) (f : S → T) (a : Rules S) (b : Rules T) : Type 0 where
  pub infixes : b.infixes ≡ a.infixes
  pub prefixes : b.prefixes ≡ a.prefixes
  pub comma : b.comma ≡ a.comma
  pub leaf : (at : ℕ) (v : Value) → b.leaf at v ≡ f (a.leaf at v)
  pub negative : (at i : ℕ) → b.negative at i ≡ f (a.negative at i)
  pub atom : (h : Head) → b.atom h ≡ f (a.atom h)
  pub call : (h : Head) (ts : List S) → b.call h (map f ts) ≡ f (a.call h ts)
  pub prefixed : (at n : ℕ) (t : S) → b.prefixed at n (f t) ≡ f (a.prefixed at n t)
  pub infixed : (n : ℕ) (t u : S) → b.infixed n (f t) (f u) ≡ f (a.infixed n t u)
  pub listed : (at : ℕ) (ts : List S) → b.listed at (map f ts) None ≡ f (a.listed at ts None)
  pub listed_to : (at : ℕ) (ts : List S) (t : S) → b.listed at (map f ts) (Some (f t)) ≡ f (a.listed at ts (Some t))
  pub curled : (at : ℕ) (t : S) → b.curled at (f t) ≡ f (a.curled at t)
  pub grouped : (at : ℕ) (t : S) → b.grouped at (f t) ≡ f (a.grouped at t)
  pub depth : (t : S) → nat_le limit (b.depth (f t)) ≡ nat_le limit (a.depth t)

module _ {S T : Type 0} (f : S → T) where
  abbrev open_of : Open S → Open T
  open_of (group_open at) = group_open at
  open_of (curly_open at) = curly_open at
  open_of (arguments_open h ts) = arguments_open h (map f ts)
  open_of (items_open at ts) = items_open at (map f ts)
  open_of (tail_open at ts) = tail_open at (map f ts)

  abbrev frames_of : List (Frame S) → List (Frame T)
  frames_of [] = []
  frames_of (infix_frame b n q left ∷ k) = infix_frame b n q (f left) ∷ frames_of k
  frames_of (prefix_frame b at n q ∷ k) = prefix_frame b at n q ∷ frames_of k
  frames_of (open_frame b o ∷ k) = open_frame b (open_of o) ∷ frames_of k

  abbrev pub state_of : State S → State T
  state_of (want bound k) = want bound (frames_of k)
  state_of (named bound at n k) = named bound at n (frames_of k)
  state_of (titled bound h k) = titled bound h (frames_of k)
  state_of (bracketed bound at k) = bracketed bound at (frames_of k)
  state_of (braced bound at k) = braced bound at (frames_of k)
  state_of (have bound t p k) = have bound (f t) p (frames_of k)
  state_of (unsure bound at n op at' m k) = unsure bound at n op at' m (frames_of k)
  state_of (infix_only r k) = infix_only r (frames_of k)

  abbrev next_of : Next S → Next T
  next_of (go_on s) = go_on (state_of s)
  next_of stuck = stuck
  next_of (finished t) = finished (f t)
  next_of unexpected_here = unexpected_here
  next_of deep_here = deep_here

  abbrev ended_of : Ended S → Ended T
  ended_of (closed t) = closed (f t)
  ended_of (goes_on o) = goes_on (open_of o)
  ended_of wrong = wrong

  map_one : (ts : List S) (t : S) → map f (ts ++ t ∷ []) ≡ map f ts ++ f t ∷ []
  map_one [] t = refl
  map_one (u ∷ ts) t = ap (λ xs. f u ∷ xs) (map_one ts t)

  items_past_of : (ts : List S) (h : ℕ) → items_past (map f ts) h ≡ items_past ts h
  items_past_of [] h = refl
  items_past_of (t ∷ ts) h = items_past_of ts (suc h)

  inside_of : (o : Open S) (h : ℕ) → inside_height (open_of o) h ≡ inside_height o h
  inside_of (group_open at) h = refl
  inside_of (curly_open at) h = refl
  inside_of (arguments_open head ts) h = refl
  inside_of (items_open at ts) h = items_past_of ts (suc h)
  inside_of (tail_open at ts) h = items_past_of ts (suc h)

  height_of : (k : List (Frame S)) → height (frames_of k) ≡ height k
  height_of [] = refl
  height_of (infix_frame b n q left ∷ k) = ap suc (height_of k)
  height_of (prefix_frame b at n q ∷ k) = ap suc (height_of k)
  height_of (open_frame b o ∷ k) = inside_of o (height (frames_of k)) ∙ ap (inside_height o) (height_of k)

  bound_of : (o : Open S) → inside (open_of o) ≡ inside o
  bound_of (group_open at) = refl
  bound_of (curly_open at) = refl
  bound_of (arguments_open head ts) = refl
  bound_of (items_open at ts) = refl
  bound_of (tail_open at ts) = refl

  module _ (limit : ℕ) (a : Rules S) (b : Rules T) (maps : Maps limit f a b) where
    taken_of : (bound p : ℕ) (token : Token) → taken b bound p token ≡ taken a bound p token
    taken_of bound p (Name at n) = rw maps.infixes refl
    taken_of bound p Comma = rw maps.comma refl
    taken_of bound p _ = refl

    ends_of : (o : Open S) (t : S) (token : Token) → ends b (open_of o) (f t) token ≡ ended_of (ends a o t token)
    ends_of (group_open at) t ParenEnd = ap closed (maps.grouped at t)
    ends_of (group_open at) t _ = refl
    ends_of (curly_open at) t BraceEnd = ap closed (maps.curled at t)
    ends_of (curly_open at) t _ = refl
    ends_of (arguments_open h ts) t ParenEnd = ap closed (ap (b.call h) (sym (map_one ts t)) ∙ maps.call h (ts ++ t ∷ []))
    ends_of (arguments_open h ts) t Comma = ap (λ xs. goes_on (arguments_open h xs)) (sym (map_one ts t))
    ends_of (arguments_open h ts) t _ = refl
    ends_of (items_open at ts) t BracketEnd = ap closed (ap (λ xs. b.listed at xs None) (sym (map_one ts t)) ∙ maps.listed at (ts ++ t ∷ []))
    ends_of (items_open at ts) t Comma = ap (λ xs. goes_on (items_open at xs)) (sym (map_one ts t))
    ends_of (items_open at ts) t Bar = ap (λ xs. goes_on (tail_open at xs)) (sym (map_one ts t))
    ends_of (items_open at ts) t _ = refl
    ends_of (tail_open at ts) t BracketEnd = ap closed (maps.listed_to at ts t)
    ends_of (tail_open at ts) t _ = refl

    take_of : (op : Option (ℕ × Infix)) (over : Bool) (bound : ℕ) (t : S) (k : List (Frame S)) (other : Next S) (other' : Next T)
        → other' ≡ next_of other
        → walk_take op over bound (f t) (frames_of k) other' ≡ next_of (walk_take op over bound t k other)
    take_of None over bound t k other other' h = h
    take_of (Some op) true bound t k other other' h = refl
    take_of (Some op) false bound t k other other' h = refl

    walk_ended_of : (bound : ℕ) (k : List (Frame S)) (e : Ended S) → walk_ended bound (frames_of k) (ended_of e) ≡ next_of (walk_ended bound k e)
    walk_ended_of bound k (closed t) = refl
    walk_ended_of bound k (goes_on o) = rw (bound_of o) refl
    walk_ended_of bound k wrong = refl

    text_of : (t : S) (token : Token) → walk_text (f t) token ≡ next_of (walk_text t token)
    text_of t End = refl
    text_of t _ = refl

    have_of : (k : List (Frame S)) (bound : ℕ) (t : S) (p : ℕ) (token : Token)
        → walk_have limit b (frames_of k) bound (f t) p token ≡ next_of (walk_have limit a k bound t p token)
    have_of [] bound t p token =
        rw (taken_of bound p token, maps.depth t) (take_of (taken a bound p token) (nat_le limit (a.depth t)) bound t [] _ _ (text_of t token))
    have_of (infix_frame c n q left ∷ k) bound t p token =
        rw (taken_of bound p token, maps.depth t, maps.infixed n left t) (take_of (taken a bound p token) (nat_le limit (a.depth t)) bound t (infix_frame c n q left ∷ k) _ _ (have_of k c (a.infixed n left t) q token))
    have_of (prefix_frame c at n q ∷ k) bound t p token =
        rw (taken_of bound p token, maps.depth t, maps.prefixed at n t) (take_of (taken a bound p token) (nat_le limit (a.depth t)) bound t (prefix_frame c at n q ∷ k) _ _ (have_of k c (a.prefixed at n t) q token))
    have_of (open_frame c o ∷ k) bound t p token =
        rw (taken_of bound p token, maps.depth t, ends_of o t token) (take_of (taken a bound p token) (nat_le limit (a.depth t)) bound t (open_frame c o ∷ k) _ _ (walk_ended_of c k (ends a o t token)))

    atom_of : (k : List (Frame S)) (bound : ℕ) (h : Head) (p : ℕ) (token : Token)
        → walk_have limit b (frames_of k) bound (b.atom h) p token ≡ next_of (walk_have limit a k bound (a.atom h) p token)
    atom_of k bound h p token = rw (maps.atom h) (have_of k bound (a.atom h) p token)

    -- a token that begins an operand
    want_of : (k : List (Frame S)) (bound : ℕ) (token : Token)
        → walk_want limit b bound (frames_of k) token ≡ next_of (walk_want limit a bound k token)
    want_of k bound token = rw (height_of k) (by_over token (too_deep limit (want_load (height k) token)))
      where
        by_over : (token : Token) (over : Bool)
            → judged (step_want b bound (frames_of k) token) over ≡ next_of (judged (step_want a bound k token) over)
        by_over (Leaf at v) true = refl
        by_over (Leaf at v) false = ap (λ t. go_on (have bound t 0 (frames_of k))) (maps.leaf at v)
        by_over (Joined at i) true = refl
        by_over (Joined at i) false = ap (λ t. go_on (have bound t 0 (frames_of k))) (maps.leaf at (integer i))
        by_over (Name at n) true = refl
        by_over (Name at n) false = refl
        by_over (Paren at) true = refl
        by_over (Paren at) false = refl
        by_over (Touching at) true = refl
        by_over (Touching at) false = refl
        by_over (Bracket at) true = refl
        by_over (Bracket at) false = refl
        by_over (Brace at) true = refl
        by_over (Brace at) false = refl
        by_over _ over = refl

    apply_of : (can : Bool) (k : List (Frame S)) (bound at n : ℕ) (op : Prefix) (token : Token)
        → (if can then walk_want limit b op.right (prefix_frame bound at n op.priority ∷ frames_of k) token else unexpected_here)
        ≡ next_of (if can then walk_want limit a op.right (prefix_frame bound at n op.priority ∷ k) token else unexpected_here)
    apply_of true k bound at n op token = want_of (prefix_frame bound at n op.priority ∷ k) op.right token
    apply_of false k bound at n op token = refl

    or_stuck_of : (can : Bool) (x : Next S) → or_stuck can (next_of x) ≡ next_of (or_stuck can x)
    or_stuck_of true unexpected_here = refl
    or_stuck_of true _ = refl
    or_stuck_of false _ = refl

    only_stuck_of : (x : Next S) → only_stuck (next_of x) ≡ next_of (only_stuck x)
    only_stuck_of unexpected_here = refl
    only_stuck_of _ = refl

    fork_of : (can touch : Bool) (k : List (Frame S)) (bound at n : ℕ) (op : Prefix) (at' m : ℕ)
        → walk_fork can touch limit b (frames_of k) bound at n op at' m ≡ next_of (walk_fork can touch limit a k bound at n op at' m)
    fork_of true true k bound at n op at' m = want_of (prefix_frame bound at n op.priority ∷ k) op.right (Name at' m)
    fork_of false true k bound at n op at' m =
        ap only_stuck (atom_of k bound (plain at n) 0 (Name at' m)) ∙ only_stuck_of (walk_have limit a k bound (a.atom (plain at n)) 0 (Name at' m))
    fork_of true false k bound at n op at' m =
        ap (or_stuck true) (atom_of k bound (plain at n) 0 (Name at' m)) ∙ or_stuck_of true (walk_have limit a k bound (a.atom (plain at n)) 0 (Name at' m))
    fork_of false false k bound at n op at' m =
        ap (or_stuck false) (atom_of k bound (plain at n) 0 (Name at' m)) ∙ or_stuck_of false (walk_have limit a k bound (a.atom (plain at n)) 0 (Name at' m))

    prefix_of : (op : Prefix) (k : List (Frame S)) (bound at n : ℕ) (token : Token) (touch : Bool) → a.prefixes n ≡ Some op → b.prefixes n ≡ Some op
        → walk_step limit b (named bound at n (frames_of k)) token touch ≡ next_of (walk_step limit a (named bound at n k) token touch)
    prefix_of op k bound at n (Touching at') touch e e' = refl
    prefix_of op k bound at n (Joined at' i) touch e e' = ap (λ t. go_on (have bound t 0 (frames_of k))) (maps.negative at i)
    prefix_of op k bound at n (Name at' m) touch e e' = by_alone (is_infix_alone a m) refl
      where
        by_alone : (alone : Bool) → is_infix_alone a m ≡ alone
            → walk_step limit b (named bound at n (frames_of k)) (Name at' m) touch ≡ next_of
            (walk_step limit a (named bound at n k) (Name at' m) touch)
        by_alone true x = let x' = rw (sym maps.infixes, sym maps.prefixes) at x in rw (e, e', x, x') (fork_of (nat_le op.priority bound) touch k bound at n op at' m)
        by_alone false x = let x' = rw (sym maps.infixes, sym maps.prefixes) at x in rw (e, e', x, x') (apply_of (nat_le op.priority bound) k bound at n op (Name at' m))
    prefix_of op k bound at n (Leaf at' v) touch e e' = rw (e, e') (apply_of (nat_le op.priority bound) k bound at n op (Leaf at' v))
    prefix_of op k bound at n (Paren at') touch e e' = rw (e, e') (apply_of (nat_le op.priority bound) k bound at n op (Paren at'))
    prefix_of op k bound at n (Bracket at') touch e e' = rw (e, e') (apply_of (nat_le op.priority bound) k bound at n op (Bracket at'))
    prefix_of op k bound at n (Brace at') touch e e' = rw (e, e') (apply_of (nat_le op.priority bound) k bound at n op (Brace at'))
    prefix_of op k bound at n token touch e e' = rw (e, e') (atom_of k bound (plain at n) 0 token)

    plain_of : (k : List (Frame S)) (bound at n : ℕ) (token : Token) (touch : Bool) → a.prefixes n ≡ None → b.prefixes n ≡ None
        → walk_step limit b (named bound at n (frames_of k)) token touch ≡ next_of (walk_step limit a (named bound at n k) token touch)
    plain_of k bound at n (Touching at') touch e e' = refl
    plain_of k bound at n (Joined at' i) touch e e' = ap (λ t. go_on (have bound t 0 (frames_of k))) (maps.negative at i)
    plain_of k bound at n token touch e e' = rw (e, e') (atom_of k bound (plain at n) 0 token)

    named_of : (op : Option Prefix) (k : List (Frame S)) (bound at n : ℕ) (token : Token) (touch : Bool) → a.prefixes n ≡ op
        → walk_step limit b (named bound at n (frames_of k)) token touch ≡ next_of (walk_step limit a (named bound at n k) token touch)
    named_of None k bound at n token touch e = plain_of k bound at n token touch e (ap (λ (g : ℕ → Option Prefix). g n) maps.prefixes ∙ e)
    named_of (Some op) k bound at n token touch e = prefix_of op k bound at n token touch e (ap (λ (g : ℕ → Option Prefix). g n) maps.prefixes ∙ e)

    titled_of : (k : List (Frame S)) (bound : ℕ) (h : Head) (token : Token) (touch : Bool)
        → walk_step limit b (titled bound h (frames_of k)) token touch ≡ next_of (walk_step limit a (titled bound h k) token touch)
    titled_of k bound h (Touching at) touch = refl
    titled_of k bound h token touch = atom_of k bound h 0 token

    bracketed_of : (k : List (Frame S)) (bound at : ℕ) (token : Token) (touch : Bool)
        → walk_step limit b (bracketed bound at (frames_of k)) token touch ≡ next_of (walk_step limit a (bracketed bound at k) token touch)
    bracketed_of k bound at BracketEnd touch = refl
    bracketed_of k bound at token touch = want_of (open_frame bound (items_open at []) ∷ k) 999 token

    braced_of : (k : List (Frame S)) (bound at : ℕ) (token : Token) (touch : Bool)
        → walk_step limit b (braced bound at (frames_of k)) token touch ≡ next_of (walk_step limit a (braced bound at k) token touch)
    braced_of k bound at BraceEnd touch = refl
    braced_of k bound at token touch = want_of (open_frame bound (curly_open at) ∷ k) 1200 token

    -- the two states that only the machine of the laws enters
    abbrev move_of : Move S → Move T
    move_of (next s) = next (state_of s)
    move_of (done t) = done (f t)
    move_of fault = fault

    move_ended_of : (bound : ℕ) (k : List (Frame S)) (e : Ended S) → ended bound (frames_of k) (ended_of e) ≡ move_of (ended bound k e)
    move_ended_of bound k (closed t) = refl
    move_ended_of bound k (goes_on o) = rw (bound_of o) refl
    move_ended_of bound k wrong = refl

    move_take_of : (op : Option (ℕ × Infix)) (bound : ℕ) (t : S) (k : List (Frame S)) (other : Move S) (other' : Move T) → other' ≡ move_of other
        → take_or op bound (f t) (frames_of k) other' ≡ move_of (take_or op bound t k other)
    move_take_of None bound t k other other' h = h
    move_take_of (Some op) bound t k other other' h = refl

    move_text_of : (t : S) (token : Token) → end_text (f t) token ≡ move_of (end_text t token)
    move_text_of t End = refl
    move_text_of t _ = refl

    step_have_of : (k : List (Frame S)) (bound : ℕ) (t : S) (p : ℕ) (token : Token)
        → step_have b (frames_of k) bound (f t) p token ≡ move_of (step_have a k bound t p token)
    step_have_of [] bound t p token = rw (taken_of bound p token) (move_take_of (taken a bound p token) bound t [] _ _ (move_text_of t token))
    step_have_of (infix_frame c n q left ∷ k) bound t p token =
        rw (taken_of bound p token, maps.infixed n left t) (move_take_of (taken a bound p token) bound t (infix_frame c n q left ∷ k) _ _ (step_have_of k c (a.infixed n left t) q token))
    step_have_of (prefix_frame c at n q ∷ k) bound t p token =
        rw (taken_of bound p token, maps.prefixed at n t) (move_take_of (taken a bound p token) bound t (prefix_frame c at n q ∷ k) _ _ (step_have_of k c (a.prefixed at n t) q token))
    step_have_of (open_frame c o ∷ k) bound t p token =
        rw (taken_of bound p token, ends_of o t token) (move_take_of (taken a bound p token) bound t (open_frame c o ∷ k) _ _ (move_ended_of c k (ends a o t token)))

    unsure_of : (k : List (Frame S)) (bound at n : ℕ) (op : Prefix) (at' m : ℕ) (token : Token) (touch : Bool)
        → TakesOrFails (step_have a k bound (a.atom (plain at n)) 0 (Name at' m))
        → walk_step limit b (unsure bound at n op at' m (frames_of k)) token touch ≡ next_of
        (walk_step limit a (unsure bound at n op at' m k) token touch)
    unsure_of k bound at n op at' m (Touching at'') touch cases = refl
    unsure_of k bound at n op at' m token touch (inl fails) =
        rw (maps.atom (plain at n), step_have_of k bound (a.atom (plain at n)) 0 (Name at' m), fails) refl
    unsure_of k bound at n op at' m token touch (inr takes) =
        rw (maps.atom (plain at n), step_have_of k bound (a.atom (plain at n)) 0 (Name at' m), takes.2) (want_of takes.1 takes.0 token)

    infix_only_of : (k : List (Frame S)) (r : ℕ) (token : Token) (touch : Bool)
        → walk_step limit b (infix_only r (frames_of k)) token touch ≡ next_of (walk_step limit a (infix_only r k) token touch)
    infix_only_of k r (Touching at) touch = refl
    infix_only_of k r token touch = want_of k r token

    step_of : (s : State S) (token : Token) (touch : Bool) → walk_step limit b (state_of s) token touch ≡ next_of (walk_step limit a s token touch)
    step_of (want bound k) token touch = want_of k bound token
    step_of (named bound at n k) token touch = named_of (a.prefixes n) k bound at n token touch refl
    step_of (titled bound h k) token touch = titled_of k bound h token touch
    step_of (bracketed bound at k) token touch = bracketed_of k bound at token touch
    step_of (braced bound at k) token touch = braced_of k bound at token touch
    step_of (have bound t p k) token touch = have_of k bound t p token
    step_of (unsure bound at n op at' m k) token touch =
        unsure_of k bound at n op at' m token touch (name_cases a k bound (a.atom (plain at n)) 0 at' m)
    step_of (infix_only r k) token touch = infix_only_of k r token touch

    -- the verdict is that on the other trees
    pub maps_walk : (us : List Token) (s : State S) → walk limit b (state_of s) us ≡ verdict_map f (walk limit a s us)
    unfolding walk
    maps_walk [] s = refl
    maps_walk (token ∷ us) s = rw (step_of s token (touches us)) (by_next (walk_step limit a s token (touches us)) (λ s'. maps_walk us s'))
      where
        by_next : (x : Next S) → ((s' : State S) → walk limit b (state_of s') us ≡ verdict_map f (walk limit a s' us))
            → walked (next_of x) (λ s'. walk limit b s' us) (token ∷ us) us ≡ verdict_map f (walked x (λ s'. walk limit a s' us) (token ∷ us) us)
        by_next (go_on s') later = later s'
        by_next stuck later = refl
        by_next (finished t) later = refl
        by_next unexpected_here later = refl
        by_next deep_here later = refl
