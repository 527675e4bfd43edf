-- A step keeps variables and names in range, and makes no more nodes than its token pays for.
use Rattle.std.proofs.Common.{◌≡◌, ℕ, suc, ◌+◌, ◌<◌, ◌≤◌, nat_le, ◌&&◌, Bool, true, false, pos, List, [], ◌∷◌, ◌++◌, length, map, Option, Some, None, refl, ap, arith, length-append, lt-ltb}
use Rattle.std.proofs.lemmas.List.{length-map}
use Rattle.prolog_grammar.specs.Token.{Value, variable, integer, text, Token, Leaf, Joined, Name, Paren, Touching, ParenEnd, Bracket, BracketEnd, Brace, BraceEnd, Comma, Bar, End}
use Rattle.prolog_grammar.specs.Rules.{Infix, Prefix, Head, plain, brackets, braces, Rules, taken, if_fits, is_infix_alone}
use Rattle.prolog_grammar.specs.Depth.{too_deep}
use Rattle.prolog_grammar.specs.Placed.{Var, Int, Part, row_of, Known, place_of, name_of, single_at, named_at, nil_at, chain, value_at, placed_rules}
use Rattle.prolog_grammar.specs.Machine.{Open, group_open, curly_open, arguments_open, items_open, tail_open, Frame, infix_frame, prefix_frame, open_frame, State, want, named, titled, bracketed, braced, have, unsure, infix_only, next, fault, Ended, closed, goes_on, wrong, ends}
use Rattle.prolog_grammar.specs.Run.{height, want_load}
use Rattle.prolog_grammar.specs.Walk.{Next, go_on, stuck, finished, unexpected_here, deep_here, judged, walk_want, walk_take, walk_ended, walk_text, walk_have, walk_apply, or_stuck, only_stuck, walk_fork, walk_prefix, walk_apart, walk_named, walk_titled, walk_bracketed, walk_braced, walk_step}
use Rattle.prolog_terms.specs.Clauses.{all_nodes, all_below, all_known}
use Rattle.prolog_reader.specs.Measures.{value_weight, weight, part_nodes, parts_nodes, open_nodes, stack_nodes, state_nodes, NextWithin, IsFine, AreFine, IsHeadFine, IsOpenFine, IsStackFine, IsStateFine, IsNextFine, IsValueFine, IsTokenFine}

row_nodes : (ps : List Part) → all_nodes (row_of ps) ≡ parts_nodes ps
row_nodes [] = refl
row_nodes (p ∷ ps) = ap (λ n. part_nodes p + n) (row_nodes ps)

parts_push : (ps : List Part) (p : Part) → parts_nodes (ps ++ p ∷ []) ≡ parts_nodes ps + part_nodes p
parts_push [] p = omega arith
parts_push (q ∷ ps) p = omega (arith, parts_push ps p)

chain_nodes : (names : Known) (at : ℕ) (ps : List Part) (tail : Part) → part_nodes (chain 1000 names at ps tail) ≡ parts_nodes ps + length ps + part_nodes tail
chain_nodes names at [] tail = omega arith
chain_nodes names at (p ∷ ps) tail = omega (arith, chain_nodes names at ps tail)

singles_nodes : (at : ℕ) (codes : List ℕ) → parts_nodes (map (λ c. single_at 1000 at (Int (pos c))) codes) ≡ length codes
singles_nodes at [] = refl
singles_nodes at (c ∷ cs) = omega (arith, singles_nodes at cs)

value_nodes : (names : Known) (at : ℕ) (v : Value) → part_nodes (value_at 1000 names at v) ≤ value_weight v
value_nodes names at (variable v) = omega arith
value_nodes names at (integer i) = omega arith
value_nodes names at (text codes) =
    omega (arith, chain_nodes names at (map (λ c. single_at 1000 at (Int (pos c))) codes) (nil_at 1000 names at), singles_nodes at codes, length-map codes (λ c. single_at 1000 at (Int (pos c))))

or_stuck_within : (m : ℕ) (b : Bool) (n : Next Part) → NextWithin m n → NextWithin m (or_stuck b n)
or_stuck_within m true (go_on s) h = h
or_stuck_within m true stuck h = h
or_stuck_within m true (finished p) h = h
or_stuck_within m true unexpected_here h = tt
or_stuck_within m true deep_here h = h
or_stuck_within m false n h = h

only_stuck_within : (m : ℕ) (n : Next Part) → NextWithin m (only_stuck n)
only_stuck_within m (go_on s) = tt
only_stuck_within m stuck = tt
only_stuck_within m (finished p) = tt
only_stuck_within m unexpected_here = tt
only_stuck_within m deep_here = tt

within_more : (m m' : ℕ) (n : Next Part) → NextWithin m n → m ≤ m' → NextWithin m' n
within_more m m' (go_on s) h l = omega (arith, h, l)
within_more m m' stuck h l = tt
within_more m m' (finished p) h l = omega (arith, h, l)
within_more m m' unexpected_here h l = tt
within_more m m' deep_here h l = tt

one_pays : (u : Token) → 1 ≤ weight u
one_pays (Leaf at (variable v)) = omega arith
one_pays (Leaf at (integer i)) = omega arith
one_pays (Leaf at (text codes)) = omega arith
one_pays (Joined at i) = omega arith
one_pays (Name at n) = omega arith
one_pays (Paren at) = omega arith
one_pays (Touching at) = omega arith
one_pays ParenEnd = omega arith
one_pays (Bracket at) = omega arith
one_pays BracketEnd = omega arith
one_pays (Brace at) = omega arith
one_pays BraceEnd = omega arith
one_pays Comma = omega arith
one_pays Bar = omega arith
one_pays End = omega arith

-- nodes
module _ (infixes : ℕ → Option Infix) (prefixes : ℕ → Option Prefix) (names : Known) where
  abbrev rules : Rules Part
  rules = placed_rules 1000 infixes prefixes names

  judged_within : (m : ℕ) (s : State Part) (over : Bool) → state_nodes s ≤ m → NextWithin m (judged (next s) over)
  judged_within m s true h = tt
  judged_within m s false h = h

  judged_fault : (m : ℕ) (over : Bool) → NextWithin m (judged fault over)
  judged_fault m over = tt

  want_within : (bound : ℕ) (k : List (Frame Part)) (u : Token) → NextWithin (stack_nodes k + weight u) (walk_want 1000 rules bound k u)
  want_within bound k (Leaf at v) = judged_within _ _ (too_deep 1000 (want_load (height k) (Leaf at v))) (omega (arith, value_nodes names at v))
  want_within bound k (Joined at i) = judged_within _ _ (too_deep 1000 (want_load (height k) (Joined at i))) (omega arith)
  want_within bound k (Name at n) = judged_within _ _ (too_deep 1000 (want_load (height k) (Name at n))) (omega arith)
  want_within bound k (Paren at) = judged_within _ _ (too_deep 1000 (want_load (height k) (Paren at))) (omega arith)
  want_within bound k (Touching at) = judged_within _ _ (too_deep 1000 (want_load (height k) (Touching at))) (omega arith)
  want_within bound k (Bracket at) = judged_within _ _ (too_deep 1000 (want_load (height k) (Bracket at))) (omega arith)
  want_within bound k (Brace at) = judged_within _ _ (too_deep 1000 (want_load (height k) (Brace at))) (omega arith)
  want_within bound k ParenEnd = tt
  want_within bound k BracketEnd = tt
  want_within bound k BraceEnd = tt
  want_within bound k Comma = tt
  want_within bound k Bar = tt
  want_within bound k End = tt

  take_within : (m : ℕ) (o : Option (ℕ × Infix)) (over : Bool) (bound : ℕ) (t : Part) (k : List (Frame Part)) (other : Next Part) → suc (part_nodes t + stack_nodes k) ≤ m → NextWithin m other
      → NextWithin m (walk_take o over bound t k other)
  take_within m None over bound t k other h g = g
  take_within m (Some op) true bound t k other h g = tt
  take_within m (Some op) false bound t k other h g = omega (arith, h)

  text_within : (m : ℕ) (t : Part) (u : Token) → part_nodes t ≤ m → NextWithin m (walk_text t u)
  text_within m t (Leaf at v) h = tt
  text_within m t (Joined at i) h = tt
  text_within m t (Name at n) h = tt
  text_within m t (Paren at) h = tt
  text_within m t (Touching at) h = tt
  text_within m t ParenEnd h = tt
  text_within m t (Bracket at) h = tt
  text_within m t BracketEnd h = tt
  text_within m t (Brace at) h = tt
  text_within m t BraceEnd h = tt
  text_within m t Comma h = tt
  text_within m t Bar h = tt
  text_within m t End h = h

  abbrev EndedWithin : ℕ → Ended Part → Type 0
  EndedWithin m (closed t) = part_nodes t ≤ m
  EndedWithin m (goes_on o) = open_nodes o ≤ m
  EndedWithin m wrong = Unit {0}

  ends_within : (o : Open Part) (t : Part) (u : Token) → EndedWithin (suc (open_nodes o + part_nodes t)) (ends rules o t u)
  ends_within (group_open at) t ParenEnd = omega arith
  ends_within (curly_open at) t BraceEnd = omega arith
  ends_within (arguments_open h ps) t ParenEnd = omega (arith, row_nodes (ps ++ t ∷ []), parts_push ps t)
  ends_within (arguments_open h ps) t Comma = omega (arith, parts_push ps t)
  ends_within (items_open at ps) t BracketEnd = omega (arith, chain_nodes names at (ps ++ t ∷ []) (nil_at 1000 names at), parts_push ps t, length-append ps (t ∷ []))
  ends_within (items_open at ps) t Comma = omega (arith, parts_push ps t, length-append ps (t ∷ []))
  ends_within (items_open at ps) t Bar = omega (arith, parts_push ps t, length-append ps (t ∷ []))
  ends_within (tail_open at ps) t BracketEnd = omega (arith, chain_nodes names at ps t)
  ends_within _ t _ = tt

  ended_within : (m b : ℕ) (k : List (Frame Part)) (e : Ended Part) → EndedWithin m e → NextWithin (m + stack_nodes k) (walk_ended b k e)
  ended_within m b k (closed t) h = omega (arith, h)
  ended_within m b k (goes_on o) h = omega (arith, h)
  ended_within m b k wrong h = tt

  have_within : (k : List (Frame Part)) (bound : ℕ) (t : Part) (p : ℕ) (u : Token) → NextWithin (suc (part_nodes t + stack_nodes k)) (walk_have 1000 rules k bound t p u)
  have_within [] bound t p u = take_within _ (taken rules bound p u) (nat_le 1000 t.depth) bound t [] (walk_text t u) (omega arith) (text_within _ t u (omega arith))
  have_within (infix_frame b n q left ∷ k) bound t p u =
      take_within _ (taken rules bound p u) (nat_le 1000 t.depth) bound t (infix_frame b n q left ∷ k) _ (omega arith)
      (within_more _ _ (walk_have 1000 rules k b (rules.infixed n left t) q u) (have_within k b (rules.infixed n left t) q u) (omega arith))
  have_within (prefix_frame b at n q ∷ k) bound t p u =
      take_within _ (taken rules bound p u) (nat_le 1000 t.depth) bound t (prefix_frame b at n q ∷ k) _ (omega arith)
      (within_more _ _ (walk_have 1000 rules k b (rules.prefixed at n t) q u) (have_within k b (rules.prefixed at n t) q u) (omega arith))
  have_within (open_frame b o ∷ k) bound t p u =
      take_within _ (taken rules bound p u) (nat_le 1000 t.depth) bound t (open_frame b o ∷ k) _ (omega arith)
      (within_more _ _ (walk_ended b k (ends rules o t u)) (ended_within _ b k (ends rules o t u) (ends_within o t u)) (omega arith))

  apply_within : (bound at n : ℕ) (op : Prefix) (k : List (Frame Part)) (u : Token) → NextWithin (suc (stack_nodes k) + weight u) (walk_apply 1000 rules bound at n op k u)
  apply_within bound at n op k u = by_test (nat_le op.priority bound) refl
    where
      by_test : (b : Bool) → nat_le op.priority bound ≡ b → NextWithin (suc (stack_nodes k) + weight u) (walk_apply 1000 rules bound at n op k u)
      by_test true e = rw e (within_more _ _ (walk_want 1000 rules op.right (prefix_frame bound at n op.priority ∷ k) u) (want_within op.right (prefix_frame bound at n op.priority ∷ k) u) (omega arith))
      by_test false e = rw e tt

  fork_within : (can touch : Bool) (k : List (Frame Part)) (bound at n : ℕ) (op : Prefix) (at' m : ℕ)
      → NextWithin (suc (suc (stack_nodes k))) (walk_fork can touch 1000 rules k bound at n op at' m)
  fork_within true true k bound at n op at' m =
      within_more _ _ (walk_want 1000 rules op.right (prefix_frame bound at n op.priority ∷ k) (Name at' m)) (want_within op.right (prefix_frame bound at n op.priority ∷ k) (Name at' m)) (omega arith)
  fork_within false true k bound at n op at' m = only_stuck_within _ (walk_have 1000 rules k bound (rules.atom (plain at n)) 0 (Name at' m))
  fork_within true false k bound at n op at' m =
      or_stuck_within _ true (walk_have 1000 rules k bound (rules.atom (plain at n)) 0 (Name at' m))
      (within_more _ _ (walk_have 1000 rules k bound (rules.atom (plain at n)) 0 (Name at' m)) (have_within k bound (rules.atom (plain at n)) 0 (Name at' m)) (omega arith))
  fork_within false false k bound at n op at' m =
      or_stuck_within _ false (walk_have 1000 rules k bound (rules.atom (plain at n)) 0 (Name at' m))
      (within_more _ _ (walk_have 1000 rules k bound (rules.atom (plain at n)) 0 (Name at' m)) (have_within k bound (rules.atom (plain at n)) 0 (Name at' m)) (omega arith))

  -- an atom, and the token after it
  atom_within : (k : List (Frame Part)) (bound : ℕ) (h : Head) (u : Token) → NextWithin (suc (stack_nodes k) + weight u) (walk_have 1000 rules k bound (rules.atom h) 0 u)
  atom_within k bound h u = within_more _ _ (walk_have 1000 rules k bound (rules.atom h) 0 u) (have_within k bound (rules.atom h) 0 u) (omega (arith, one_pays u))

  prefix_within : (k : List (Frame Part)) (bound at n : ℕ) (op : Prefix) (u : Token) (touch : Bool) → NextWithin (suc (stack_nodes k) + weight u) (walk_prefix 1000 rules k bound at n op u touch)
  prefix_within k bound at n op (Name at' m) touch = by_test (is_infix_alone rules m) refl
    where
      by_test : (b : Bool) → is_infix_alone rules m ≡ b → NextWithin (suc (stack_nodes k) + 1) (walk_prefix 1000 rules k bound at n op (Name at' m) touch)
      by_test true e = rw e (within_more _ _ (walk_fork (nat_le op.priority bound) touch 1000 rules k bound at n op at' m) (fork_within (nat_le op.priority bound) touch k bound at n op at' m) (omega arith))
      by_test false e = rw e (apply_within bound at n op k (Name at' m))
  prefix_within k bound at n op (Leaf at' v) touch = apply_within bound at n op k (Leaf at' v)
  prefix_within k bound at n op (Paren at') touch = apply_within bound at n op k (Paren at')
  prefix_within k bound at n op (Bracket at') touch = apply_within bound at n op k (Bracket at')
  prefix_within k bound at n op (Brace at') touch = apply_within bound at n op k (Brace at')
  prefix_within k bound at n op (Joined at' i) touch = atom_within k bound (plain at n) (Joined at' i)
  prefix_within k bound at n op (Touching at') touch = atom_within k bound (plain at n) (Touching at')
  prefix_within k bound at n op ParenEnd touch = atom_within k bound (plain at n) ParenEnd
  prefix_within k bound at n op BracketEnd touch = atom_within k bound (plain at n) BracketEnd
  prefix_within k bound at n op BraceEnd touch = atom_within k bound (plain at n) BraceEnd
  prefix_within k bound at n op Comma touch = atom_within k bound (plain at n) Comma
  prefix_within k bound at n op Bar touch = atom_within k bound (plain at n) Bar
  prefix_within k bound at n op End touch = atom_within k bound (plain at n) End

  apart_within : (o : Option Prefix) (k : List (Frame Part)) (bound at n : ℕ) (u : Token) (touch : Bool) → NextWithin (suc (stack_nodes k) + weight u) (walk_apart o 1000 rules k bound at n u touch)
  apart_within None k bound at n u touch = atom_within k bound (plain at n) u
  apart_within (Some op) k bound at n u touch = prefix_within k bound at n op u touch

  named_within : (k : List (Frame Part)) (bound at n : ℕ) (u : Token) (touch : Bool) → NextWithin (suc (stack_nodes k) + weight u) (walk_named 1000 rules k bound at n u touch)
  named_within k bound at n (Touching at') touch = omega arith
  named_within k bound at n (Joined at' i) touch = omega arith
  named_within k bound at n (Leaf at' v) touch = apart_within (prefixes n) k bound at n (Leaf at' v) touch
  named_within k bound at n (Name at' m) touch = apart_within (prefixes n) k bound at n (Name at' m) touch
  named_within k bound at n (Paren at') touch = apart_within (prefixes n) k bound at n (Paren at') touch
  named_within k bound at n (Bracket at') touch = apart_within (prefixes n) k bound at n (Bracket at') touch
  named_within k bound at n (Brace at') touch = apart_within (prefixes n) k bound at n (Brace at') touch
  named_within k bound at n ParenEnd touch = apart_within (prefixes n) k bound at n ParenEnd touch
  named_within k bound at n BracketEnd touch = apart_within (prefixes n) k bound at n BracketEnd touch
  named_within k bound at n BraceEnd touch = apart_within (prefixes n) k bound at n BraceEnd touch
  named_within k bound at n Comma touch = apart_within (prefixes n) k bound at n Comma touch
  named_within k bound at n Bar touch = apart_within (prefixes n) k bound at n Bar touch
  named_within k bound at n End touch = apart_within (prefixes n) k bound at n End touch

  titled_within : (k : List (Frame Part)) (bound : ℕ) (h : Head) (u : Token) → NextWithin (suc (stack_nodes k) + weight u) (walk_titled 1000 rules k bound h u)
  titled_within k bound h (Touching at') = omega arith
  titled_within k bound h (Joined at' i) = atom_within k bound h (Joined at' i)
  titled_within k bound h (Leaf at' v) = atom_within k bound h (Leaf at' v)
  titled_within k bound h (Name at' m) = atom_within k bound h (Name at' m)
  titled_within k bound h (Paren at') = atom_within k bound h (Paren at')
  titled_within k bound h (Bracket at') = atom_within k bound h (Bracket at')
  titled_within k bound h (Brace at') = atom_within k bound h (Brace at')
  titled_within k bound h ParenEnd = atom_within k bound h ParenEnd
  titled_within k bound h BracketEnd = atom_within k bound h BracketEnd
  titled_within k bound h BraceEnd = atom_within k bound h BraceEnd
  titled_within k bound h Comma = atom_within k bound h Comma
  titled_within k bound h Bar = atom_within k bound h Bar
  titled_within k bound h End = atom_within k bound h End

  -- the first token after an opening bracket or brace
  first_within : (bound b : ℕ) (o : Open Part) (k : List (Frame Part)) (u : Token) → open_nodes o ≤ 1 → NextWithin (suc (stack_nodes k) + weight u) (walk_want 1000 rules bound (open_frame b o ∷ k) u)
  first_within bound b o k u h = within_more _ _ (walk_want 1000 rules bound (open_frame b o ∷ k) u) (want_within bound (open_frame b o ∷ k) u) (omega (arith, h))

  bracketed_within : (k : List (Frame Part)) (bound at : ℕ) (u : Token) → NextWithin (suc (stack_nodes k) + weight u) (walk_bracketed 1000 rules k bound at u)
  bracketed_within k bound at BracketEnd = omega arith
  bracketed_within k bound at (Touching at') = first_within 999 bound (items_open at []) k (Touching at') (omega arith)
  bracketed_within k bound at (Joined at' i) = first_within 999 bound (items_open at []) k (Joined at' i) (omega arith)
  bracketed_within k bound at (Leaf at' v) = first_within 999 bound (items_open at []) k (Leaf at' v) (omega arith)
  bracketed_within k bound at (Name at' m) = first_within 999 bound (items_open at []) k (Name at' m) (omega arith)
  bracketed_within k bound at (Paren at') = first_within 999 bound (items_open at []) k (Paren at') (omega arith)
  bracketed_within k bound at (Bracket at') = first_within 999 bound (items_open at []) k (Bracket at') (omega arith)
  bracketed_within k bound at (Brace at') = first_within 999 bound (items_open at []) k (Brace at') (omega arith)
  bracketed_within k bound at ParenEnd = tt
  bracketed_within k bound at BraceEnd = tt
  bracketed_within k bound at Comma = tt
  bracketed_within k bound at Bar = tt
  bracketed_within k bound at End = tt

  braced_within : (k : List (Frame Part)) (bound at : ℕ) (u : Token) → NextWithin (suc (stack_nodes k) + weight u) (walk_braced 1000 rules k bound at u)
  braced_within k bound at BraceEnd = omega arith
  braced_within k bound at (Touching at') = first_within 1200 bound (curly_open at) k (Touching at') (omega arith)
  braced_within k bound at (Joined at' i) = first_within 1200 bound (curly_open at) k (Joined at' i) (omega arith)
  braced_within k bound at (Leaf at' v) = first_within 1200 bound (curly_open at) k (Leaf at' v) (omega arith)
  braced_within k bound at (Name at' m) = first_within 1200 bound (curly_open at) k (Name at' m) (omega arith)
  braced_within k bound at (Paren at') = first_within 1200 bound (curly_open at) k (Paren at') (omega arith)
  braced_within k bound at (Bracket at') = first_within 1200 bound (curly_open at) k (Bracket at') (omega arith)
  braced_within k bound at (Brace at') = first_within 1200 bound (curly_open at) k (Brace at') (omega arith)
  braced_within k bound at ParenEnd = tt
  braced_within k bound at BracketEnd = tt
  braced_within k bound at Comma = tt
  braced_within k bound at Bar = tt
  braced_within k bound at End = tt

-- variables and names
module _ (count vars : ℕ) where
  push_fine : (ps : List Part) (p : Part) → AreFine count vars ps → IsFine count vars p → AreFine count vars (ps ++ p ∷ [])
  push_fine [] p h g = (g, tt)
  push_fine (q ∷ ps) p h g = (h.0, push_fine ps p h.1 g)

  row_below : (ps : List Part) → AreFine count vars ps → all_below vars (row_of ps) ≡ true
  row_below [] h = refl
  row_below (p ∷ ps) h = rw (h.0.below, row_below ps h.1) refl

  row_known : (ps : List Part) → AreFine count vars ps → all_known count (row_of ps) ≡ true
  row_known [] h = refl
  row_known (p ∷ ps) h = rw (h.0.known, row_known ps h.1) refl

  named_fine : (at n : ℕ) (ps : List Part) → n < count → AreFine count vars ps → IsFine count vars (named_at 1000 at n ps)
  named_fine at n ps h g = record { below = row_below ps g; known = rw (lt-ltb n count h, row_known ps g) refl }

  variable_fine : (at v : ℕ) → v < vars → IsFine count vars (single_at 1000 at (Var v))
  variable_fine at v h = record { below = lt-ltb v vars h; known = refl }

  or_stuck_fine : (b : Bool) (n : Next Part) → IsNextFine count vars n → IsNextFine count vars (or_stuck b n)
  or_stuck_fine true (go_on s) h = h
  or_stuck_fine true stuck h = h
  or_stuck_fine true (finished p) h = h
  or_stuck_fine true unexpected_here h = tt
  or_stuck_fine true deep_here h = h
  or_stuck_fine false n h = h

  only_stuck_fine : (n : Next Part) → IsNextFine count vars (only_stuck n)
  only_stuck_fine (go_on s) = tt
  only_stuck_fine stuck = tt
  only_stuck_fine (finished p) = tt
  only_stuck_fine unexpected_here = tt
  only_stuck_fine deep_here = tt

  module _ (infixes : ℕ → Option Infix) (prefixes : ℕ → Option Prefix) (names : Known) (comma : names.comma < count) (nil : names.nil < count) (curly : names.curly < count) (cell : names.cell < count) where
    abbrev fine_rules : Rules Part
    fine_rules = placed_rules 1000 infixes prefixes names

    chain_fine : (at : ℕ) (ps : List Part) (tail : Part) → AreFine count vars ps → IsFine count vars tail → IsFine count vars (chain 1000 names at ps tail)
    chain_fine at [] tail h g = g
    chain_fine at (p ∷ ps) tail h g = named_fine at names.cell (p ∷ chain 1000 names at ps tail ∷ []) cell (h.0, (chain_fine at ps tail h.1 g, tt))

    nil_fine : (at : ℕ) → IsFine count vars (nil_at 1000 names at)
    nil_fine at = named_fine at names.nil [] nil tt

    singles_fine : (at : ℕ) (codes : List ℕ) → AreFine count vars (map (λ c. single_at 1000 at (Int (pos c))) codes)
    singles_fine at [] = tt
    singles_fine at (c ∷ cs) = (record { below = refl; known = refl }, singles_fine at cs)

    value_fine : (at : ℕ) (v : Value) → IsValueFine count vars v → IsFine count vars (value_at 1000 names at v)
    value_fine at (variable v) h = variable_fine at v h
    value_fine at (integer i) h = record { below = refl; known = refl }
    value_fine at (text codes) h = chain_fine at (map (λ c. single_at 1000 at (Int (pos c))) codes) (nil_at 1000 names at) (singles_fine at codes) (nil_fine at)

    head_known : (h : Head) → IsHeadFine count vars h → name_of names h < count
    head_known (plain at n) h = h
    head_known (brackets at) h = nil
    head_known (braces at) h = curly

    judged_fine : (s : State Part) (over : Bool) → IsStateFine count vars s → IsNextFine count vars (judged (next s) over)
    judged_fine s true h = tt
    judged_fine s false h = h

    want_fine : (bound : ℕ) (k : List (Frame Part)) (u : Token) → IsStackFine count vars k → IsTokenFine count vars u → IsNextFine count vars (walk_want 1000 fine_rules bound k u)
    want_fine bound k (Leaf at v) h g = judged_fine _ (too_deep 1000 (want_load (height k) (Leaf at v))) (value_fine at v g, h)
    want_fine bound k (Joined at i) h g = judged_fine _ (too_deep 1000 (want_load (height k) (Joined at i))) (record { below = refl; known = refl }, h)
    want_fine bound k (Name at n) h g = judged_fine _ (too_deep 1000 (want_load (height k) (Name at n))) (g, h)
    want_fine bound k (Paren at) h g = judged_fine _ (too_deep 1000 (want_load (height k) (Paren at))) (tt, h)
    want_fine bound k (Touching at) h g = judged_fine _ (too_deep 1000 (want_load (height k) (Touching at))) (tt, h)
    want_fine bound k (Bracket at) h g = judged_fine _ (too_deep 1000 (want_load (height k) (Bracket at))) h
    want_fine bound k (Brace at) h g = judged_fine _ (too_deep 1000 (want_load (height k) (Brace at))) h
    want_fine bound k ParenEnd h g = tt
    want_fine bound k BracketEnd h g = tt
    want_fine bound k BraceEnd h g = tt
    want_fine bound k Comma h g = tt
    want_fine bound k Bar h g = tt
    want_fine bound k End h g = tt

    abbrev FoundFine : Option (ℕ × Infix) → Type 0
    FoundFine None = Unit {0}
    FoundFine (Some op) = op.0 < count

    fits_fine : (bound so_far n : ℕ) (o : Option Infix) → n < count → FoundFine (if_fits bound so_far n o)
    fits_fine bound so_far n None h = tt
    fits_fine bound so_far n (Some op) h = by_test (nat_le op.priority bound && nat_le so_far op.left) refl
      where
        by_test : (b : Bool) → (nat_le op.priority bound && nat_le so_far op.left) ≡ b → FoundFine (if_fits bound so_far n (Some op))
        by_test true e = rw e h
        by_test false e = rw e tt

    taken_fine : (bound so_far : ℕ) (u : Token) → IsTokenFine count vars u → FoundFine (taken fine_rules bound so_far u)
    taken_fine bound so_far (Name at n) h = fits_fine bound so_far n (infixes n) h
    taken_fine bound so_far Comma h = fits_fine bound so_far names.comma (Some (record { priority = 1000; left = 999; right = 1000 })) comma
    taken_fine bound so_far (Leaf at v) h = tt
    taken_fine bound so_far (Joined at i) h = tt
    taken_fine bound so_far (Paren at) h = tt
    taken_fine bound so_far (Touching at) h = tt
    taken_fine bound so_far ParenEnd h = tt
    taken_fine bound so_far (Bracket at) h = tt
    taken_fine bound so_far BracketEnd h = tt
    taken_fine bound so_far (Brace at) h = tt
    taken_fine bound so_far BraceEnd h = tt
    taken_fine bound so_far Bar h = tt
    taken_fine bound so_far End h = tt

    take_fine : (o : Option (ℕ × Infix)) (over : Bool) (bound : ℕ) (t : Part) (k : List (Frame Part)) (other : Next Part) → FoundFine o → IsFine count vars t → IsStackFine count vars k → IsNextFine count vars other
        → IsNextFine count vars (walk_take o over bound t k other)
    take_fine None over bound t k other f h g n = n
    take_fine (Some op) true bound t k other f h g n = tt
    take_fine (Some op) false bound t k other f h g n = ((f, h), g)

    text_fine : (t : Part) (u : Token) → IsFine count vars t → IsNextFine count vars (walk_text t u)
    text_fine t End h = h
    text_fine t (Leaf at v) h = tt
    text_fine t (Joined at i) h = tt
    text_fine t (Name at n) h = tt
    text_fine t (Paren at) h = tt
    text_fine t (Touching at) h = tt
    text_fine t ParenEnd h = tt
    text_fine t (Bracket at) h = tt
    text_fine t BracketEnd h = tt
    text_fine t (Brace at) h = tt
    text_fine t BraceEnd h = tt
    text_fine t Comma h = tt
    text_fine t Bar h = tt

    abbrev EndedFine : Ended Part → Type 0
    EndedFine (closed t) = IsFine count vars t
    EndedFine (goes_on o) = IsOpenFine count vars o
    EndedFine wrong = Unit {0}

    ends_fine : (o : Open Part) (t : Part) (u : Token) → IsOpenFine count vars o → IsFine count vars t → EndedFine (ends fine_rules o t u)
    ends_fine (group_open at) t ParenEnd h g = record { below = g.below; known = g.known }
    ends_fine (curly_open at) t BraceEnd h g = named_fine at names.curly (t ∷ []) curly (g, tt)
    ends_fine (arguments_open hd ps) t ParenEnd h g = named_fine (place_of hd) (name_of names hd) (ps ++ t ∷ []) (head_known hd h.0) (push_fine ps t h.1 g)
    ends_fine (arguments_open hd ps) t Comma h g = (h.0, push_fine ps t h.1 g)
    ends_fine (items_open at ps) t BracketEnd h g = chain_fine at (ps ++ t ∷ []) (nil_at 1000 names at) (push_fine ps t h g) (nil_fine at)
    ends_fine (items_open at ps) t Comma h g = push_fine ps t h g
    ends_fine (items_open at ps) t Bar h g = push_fine ps t h g
    ends_fine (tail_open at ps) t BracketEnd h g = chain_fine at ps t h g
    ends_fine _ t _ h g = tt

    ended_fine : (b : ℕ) (k : List (Frame Part)) (e : Ended Part) → EndedFine e → IsStackFine count vars k → IsNextFine count vars (walk_ended b k e)
    ended_fine b k (closed t) h g = (h, g)
    ended_fine b k (goes_on o) h g = (h, g)
    ended_fine b k wrong h g = tt

    have_fine : (k : List (Frame Part)) (bound : ℕ) (t : Part) (p : ℕ) (u : Token) → IsStackFine count vars k → IsFine count vars t → IsTokenFine count vars u
        → IsNextFine count vars (walk_have 1000 fine_rules k bound t p u)
    have_fine [] bound t p u h g f = take_fine (taken fine_rules bound p u) (nat_le 1000 t.depth) bound t [] (walk_text t u) (taken_fine bound p u f) g h (text_fine t u g)
    have_fine (infix_frame b n q left ∷ k) bound t p u h g f =
        take_fine (taken fine_rules bound p u) (nat_le 1000 t.depth) bound t (infix_frame b n q left ∷ k) _ (taken_fine bound p u f) g h
        (have_fine k b (fine_rules.infixed n left t) q u h.1 (named_fine left.at n (left ∷ t ∷ []) h.0.0 (h.0.1, (g, tt))) f)
    have_fine (prefix_frame b at n q ∷ k) bound t p u h g f =
        take_fine (taken fine_rules bound p u) (nat_le 1000 t.depth) bound t (prefix_frame b at n q ∷ k) _ (taken_fine bound p u f) g h
        (have_fine k b (fine_rules.prefixed at n t) q u h.1 (named_fine at n (t ∷ []) h.0 (g, tt)) f)
    have_fine (open_frame b o ∷ k) bound t p u h g f =
        take_fine (taken fine_rules bound p u) (nat_le 1000 t.depth) bound t (open_frame b o ∷ k) _ (taken_fine bound p u f) g h
        (ended_fine b k (ends fine_rules o t u) (ends_fine o t u h.0 g) h.1)

    apply_fine : (bound at n : ℕ) (op : Prefix) (k : List (Frame Part)) (u : Token) → n < count → IsStackFine count vars k → IsTokenFine count vars u → IsNextFine count vars (walk_apply 1000 fine_rules bound at n op k u)
    apply_fine bound at n op k u m h f = by_test (nat_le op.priority bound) refl
      where
        by_test : (b : Bool) → nat_le op.priority bound ≡ b → IsNextFine count vars (walk_apply 1000 fine_rules bound at n op k u)
        by_test true e = rw e (want_fine op.right (prefix_frame bound at n op.priority ∷ k) u (m, h) f)
        by_test false e = rw e tt

    atom_fine : (k : List (Frame Part)) (bound : ℕ) (hd : Head) (u : Token) → IsHeadFine count vars hd → IsStackFine count vars k → IsTokenFine count vars u
        → IsNextFine count vars (walk_have 1000 fine_rules k bound (fine_rules.atom hd) 0 u)
    atom_fine k bound hd u m h f = have_fine k bound (fine_rules.atom hd) 0 u h (named_fine (place_of hd) (name_of names hd) [] (head_known hd m) tt) f

    fork_fine : (can touch : Bool) (k : List (Frame Part)) (bound at n : ℕ) (op : Prefix) (at' m : ℕ) → n < count → m < count → IsStackFine count vars k
        → IsNextFine count vars (walk_fork can touch 1000 fine_rules k bound at n op at' m)
    fork_fine true true k bound at n op at' m a b h = want_fine op.right (prefix_frame bound at n op.priority ∷ k) (Name at' m) (a, h) b
    fork_fine false true k bound at n op at' m a b h = only_stuck_fine (walk_have 1000 fine_rules k bound (fine_rules.atom (plain at n)) 0 (Name at' m))
    fork_fine true false k bound at n op at' m a b h = or_stuck_fine true (walk_have 1000 fine_rules k bound (fine_rules.atom (plain at n)) 0 (Name at' m)) (atom_fine k bound (plain at n) (Name at' m) a h b)
    fork_fine false false k bound at n op at' m a b h = or_stuck_fine false (walk_have 1000 fine_rules k bound (fine_rules.atom (plain at n)) 0 (Name at' m)) (atom_fine k bound (plain at n) (Name at' m) a h b)

    prefix_fine : (k : List (Frame Part)) (bound at n : ℕ) (op : Prefix) (u : Token) (touch : Bool) → n < count → IsStackFine count vars k → IsTokenFine count vars u
        → IsNextFine count vars (walk_prefix 1000 fine_rules k bound at n op u touch)
    prefix_fine k bound at n op (Name at2 m) touch a h f = by_test (is_infix_alone fine_rules m) refl
      where
        by_test : (b : Bool) → is_infix_alone fine_rules m ≡ b → IsNextFine count vars (walk_prefix 1000 fine_rules k bound at n op (Name at2 m) touch)
        by_test true e = rw e (fork_fine (nat_le op.priority bound) touch k bound at n op at2 m a f h)
        by_test false e = rw e (apply_fine bound at n op k (Name at2 m) a h f)
    prefix_fine k bound at n op (Leaf at2 v) touch a h f = apply_fine bound at n op k (Leaf at2 v) a h f
    prefix_fine k bound at n op (Joined at2 i) touch a h f = atom_fine k bound (plain at n) (Joined at2 i) a h f
    prefix_fine k bound at n op (Paren at2) touch a h f = apply_fine bound at n op k (Paren at2) a h f
    prefix_fine k bound at n op (Touching at2) touch a h f = atom_fine k bound (plain at n) (Touching at2) a h f
    prefix_fine k bound at n op ParenEnd touch a h f = atom_fine k bound (plain at n) ParenEnd a h f
    prefix_fine k bound at n op (Bracket at2) touch a h f = apply_fine bound at n op k (Bracket at2) a h f
    prefix_fine k bound at n op BracketEnd touch a h f = atom_fine k bound (plain at n) BracketEnd a h f
    prefix_fine k bound at n op (Brace at2) touch a h f = apply_fine bound at n op k (Brace at2) a h f
    prefix_fine k bound at n op BraceEnd touch a h f = atom_fine k bound (plain at n) BraceEnd a h f
    prefix_fine k bound at n op Comma touch a h f = atom_fine k bound (plain at n) Comma a h f
    prefix_fine k bound at n op Bar touch a h f = atom_fine k bound (plain at n) Bar a h f
    prefix_fine k bound at n op End touch a h f = atom_fine k bound (plain at n) End a h f

    apart_fine : (o : Option Prefix) (k : List (Frame Part)) (bound at n : ℕ) (u : Token) (touch : Bool) → n < count → IsStackFine count vars k → IsTokenFine count vars u
        → IsNextFine count vars (walk_apart o 1000 fine_rules k bound at n u touch)
    apart_fine None k bound at n u touch a h f = atom_fine k bound (plain at n) u a h f
    apart_fine (Some op) k bound at n u touch a h f = prefix_fine k bound at n op u touch a h f

    named_state_fine : (k : List (Frame Part)) (bound at n : ℕ) (u : Token) (touch : Bool) → n < count → IsStackFine count vars k → IsTokenFine count vars u
        → IsNextFine count vars (walk_named 1000 fine_rules k bound at n u touch)
    named_state_fine k bound at n (Touching at2) touch a h f = ((a, tt), h)
    named_state_fine k bound at n (Joined at2 i) touch a h f = (record { below = refl; known = refl }, h)
    named_state_fine k bound at n (Leaf at2 v) touch a h f = apart_fine (prefixes n) k bound at n (Leaf at2 v) touch a h f
    named_state_fine k bound at n (Name at2 m) touch a h f = apart_fine (prefixes n) k bound at n (Name at2 m) touch a h f
    named_state_fine k bound at n (Paren at2) touch a h f = apart_fine (prefixes n) k bound at n (Paren at2) touch a h f
    named_state_fine k bound at n ParenEnd touch a h f = apart_fine (prefixes n) k bound at n ParenEnd touch a h f
    named_state_fine k bound at n (Bracket at2) touch a h f = apart_fine (prefixes n) k bound at n (Bracket at2) touch a h f
    named_state_fine k bound at n BracketEnd touch a h f = apart_fine (prefixes n) k bound at n BracketEnd touch a h f
    named_state_fine k bound at n (Brace at2) touch a h f = apart_fine (prefixes n) k bound at n (Brace at2) touch a h f
    named_state_fine k bound at n BraceEnd touch a h f = apart_fine (prefixes n) k bound at n BraceEnd touch a h f
    named_state_fine k bound at n Comma touch a h f = apart_fine (prefixes n) k bound at n Comma touch a h f
    named_state_fine k bound at n Bar touch a h f = apart_fine (prefixes n) k bound at n Bar touch a h f
    named_state_fine k bound at n End touch a h f = apart_fine (prefixes n) k bound at n End touch a h f

    titled_fine : (k : List (Frame Part)) (bound : ℕ) (hd : Head) (u : Token) → IsHeadFine count vars hd → IsStackFine count vars k → IsTokenFine count vars u
        → IsNextFine count vars (walk_titled 1000 fine_rules k bound hd u)
    titled_fine k bound hd (Touching at2) a h f = ((a, tt), h)
    titled_fine k bound hd (Leaf at2 v) a h f = atom_fine k bound hd (Leaf at2 v) a h f
    titled_fine k bound hd (Joined at2 i) a h f = atom_fine k bound hd (Joined at2 i) a h f
    titled_fine k bound hd (Name at2 m) a h f = atom_fine k bound hd (Name at2 m) a h f
    titled_fine k bound hd (Paren at2) a h f = atom_fine k bound hd (Paren at2) a h f
    titled_fine k bound hd ParenEnd a h f = atom_fine k bound hd ParenEnd a h f
    titled_fine k bound hd (Bracket at2) a h f = atom_fine k bound hd (Bracket at2) a h f
    titled_fine k bound hd BracketEnd a h f = atom_fine k bound hd BracketEnd a h f
    titled_fine k bound hd (Brace at2) a h f = atom_fine k bound hd (Brace at2) a h f
    titled_fine k bound hd BraceEnd a h f = atom_fine k bound hd BraceEnd a h f
    titled_fine k bound hd Comma a h f = atom_fine k bound hd Comma a h f
    titled_fine k bound hd Bar a h f = atom_fine k bound hd Bar a h f
    titled_fine k bound hd End a h f = atom_fine k bound hd End a h f

    bracketed_fine : (k : List (Frame Part)) (bound at : ℕ) (u : Token) → IsStackFine count vars k → IsTokenFine count vars u → IsNextFine count vars (walk_bracketed 1000 fine_rules k bound at u)
    bracketed_fine k bound at BracketEnd h f = (tt, h)
    bracketed_fine k bound at (Leaf at2 v) h f = want_fine 999 (open_frame bound (items_open at []) ∷ k) (Leaf at2 v) (tt, h) f
    bracketed_fine k bound at (Joined at2 i) h f = want_fine 999 (open_frame bound (items_open at []) ∷ k) (Joined at2 i) (tt, h) f
    bracketed_fine k bound at (Name at2 m) h f = want_fine 999 (open_frame bound (items_open at []) ∷ k) (Name at2 m) (tt, h) f
    bracketed_fine k bound at (Paren at2) h f = want_fine 999 (open_frame bound (items_open at []) ∷ k) (Paren at2) (tt, h) f
    bracketed_fine k bound at (Touching at2) h f = want_fine 999 (open_frame bound (items_open at []) ∷ k) (Touching at2) (tt, h) f
    bracketed_fine k bound at ParenEnd h f = tt
    bracketed_fine k bound at (Bracket at2) h f = want_fine 999 (open_frame bound (items_open at []) ∷ k) (Bracket at2) (tt, h) f
    bracketed_fine k bound at (Brace at2) h f = want_fine 999 (open_frame bound (items_open at []) ∷ k) (Brace at2) (tt, h) f
    bracketed_fine k bound at BraceEnd h f = tt
    bracketed_fine k bound at Comma h f = tt
    bracketed_fine k bound at Bar h f = tt
    bracketed_fine k bound at End h f = tt

    braced_fine : (k : List (Frame Part)) (bound at : ℕ) (u : Token) → IsStackFine count vars k → IsTokenFine count vars u → IsNextFine count vars (walk_braced 1000 fine_rules k bound at u)
    braced_fine k bound at BraceEnd h f = (tt, h)
    braced_fine k bound at (Leaf at2 v) h f = want_fine 1200 (open_frame bound (curly_open at) ∷ k) (Leaf at2 v) (tt, h) f
    braced_fine k bound at (Joined at2 i) h f = want_fine 1200 (open_frame bound (curly_open at) ∷ k) (Joined at2 i) (tt, h) f
    braced_fine k bound at (Name at2 m) h f = want_fine 1200 (open_frame bound (curly_open at) ∷ k) (Name at2 m) (tt, h) f
    braced_fine k bound at (Paren at2) h f = want_fine 1200 (open_frame bound (curly_open at) ∷ k) (Paren at2) (tt, h) f
    braced_fine k bound at (Touching at2) h f = want_fine 1200 (open_frame bound (curly_open at) ∷ k) (Touching at2) (tt, h) f
    braced_fine k bound at ParenEnd h f = tt
    braced_fine k bound at (Bracket at2) h f = want_fine 1200 (open_frame bound (curly_open at) ∷ k) (Bracket at2) (tt, h) f
    braced_fine k bound at BracketEnd h f = tt
    braced_fine k bound at (Brace at2) h f = want_fine 1200 (open_frame bound (curly_open at) ∷ k) (Brace at2) (tt, h) f
    braced_fine k bound at Comma h f = tt
    braced_fine k bound at Bar h f = tt
    braced_fine k bound at End h f = tt

    -- a step of a state that the code enters
    pub step_fine : (s : State Part) (u : Token) (touch : Bool) → IsStateFine count vars s → IsTokenFine count vars u → IsNextFine count vars (walk_step 1000 fine_rules s u touch)
    step_fine (want bound k) u touch h f = want_fine bound k u h f
    step_fine (named bound at n k) u touch h f = named_state_fine k bound at n u touch h.0 h.1 f
    step_fine (titled bound hd k) u touch h f = titled_fine k bound hd u h.0 h.1 f
    step_fine (bracketed bound at k) u touch h f = bracketed_fine k bound at u h f
    step_fine (braced bound at k) u touch h f = braced_fine k bound at u h f
    step_fine (have bound t p k) u touch h f = have_fine k bound t p u h.1 h.0 f
    step_fine (unsure bound at n op at2 m k) u touch h f = absurd h
    step_fine (infix_only r k) u touch h f = absurd h

    pub step_within : (s : State Part) (u : Token) (touch : Bool) → IsStateFine count vars s → NextWithin (state_nodes s + weight u) (walk_step 1000 fine_rules s u touch)
    step_within (want bound k) u touch h = want_within infixes prefixes names bound k u
    step_within (named bound at n k) u touch h = named_within infixes prefixes names k bound at n u touch
    step_within (titled bound hd k) u touch h = titled_within infixes prefixes names k bound hd u
    step_within (bracketed bound at k) u touch h = bracketed_within infixes prefixes names k bound at u
    step_within (braced bound at k) u touch h = braced_within infixes prefixes names k bound at u
    step_within (have bound t p k) u touch h = within_more _ _ (walk_have 1000 fine_rules k bound t p u) (have_within infixes prefixes names k bound t p u) (omega (arith, one_pays u))
    step_within (unsure bound at n op at2 m k) u touch h = absurd h
    step_within (infix_only r k) u touch h = absurd h

-- larger bounds
pub token_more : (count count' vars vars' : ℕ) (u : Token) → IsTokenFine count vars u → count ≤ count' → vars ≤ vars' → IsTokenFine count' vars' u
token_more count count' vars vars' (Leaf at (variable v)) h a b = omega (arith, h, b)
token_more count count' vars vars' (Leaf at (integer i)) h a b = tt
token_more count count' vars vars' (Leaf at (text codes)) h a b = tt
token_more count count' vars vars' (Joined at i) h a b = tt
token_more count count' vars vars' (Name at n) h a b = omega (arith, h, a)
token_more count count' vars vars' (Paren at) h a b = tt
token_more count count' vars vars' (Touching at) h a b = tt
token_more count count' vars vars' ParenEnd h a b = tt
token_more count count' vars vars' (Bracket at) h a b = tt
token_more count count' vars vars' BracketEnd h a b = tt
token_more count count' vars vars' (Brace at) h a b = tt
token_more count count' vars vars' BraceEnd h a b = tt
token_more count count' vars vars' Comma h a b = tt
token_more count count' vars vars' Bar h a b = tt
token_more count count' vars vars' End h a b = tt
