-- Laws of choices whose atom is built in, and of runs that end at a wide goal.
use Rattle.std.proofs.Common.{◌≡◌, ℕ, zero, suc, max, ◌+◌, ◌-◌, ◌<◌, ◌≤◌, IsTrue, Bool, true, false, ◌||◌, List, [], ◌∷◌, ◌++◌, map, take, drop, filter_map, length, Option, None, Some, append-nil, length-append, refl, ap, sym, subst, ◌∙◌, arith}
use Rattle.std.specs.List.{cons_option, list_any, range_with_len}
use Rattle.std.proofs.lemmas.List.{length-map, map-append}
use Rattle.std.proofs.lemmas.List.Elements.{filter_map-append}
use Rattle.cti_terms.specs.Arithmetic.{kind_of, begins_wide}
use Rattle.cti_terms.specs.declared.atom_list.Atom.{Atom}
use Rattle.cti_terms.specs.declared.builtins.Builtin.{Builtin}
use Rattle.cti_terms.specs.declared.derivation.Goal.{Goal}
use Rattle.cti_terms.specs.Listing.{IsProgram, Listing}
use Rattle.cti_terms.specs.Nodes.{nodes, first_nodes, longest}
use Rattle.cti_terms.specs.Answers.{answer_by, answer_of, leaves_wide, up_to_wide, visited}
use Rattle.cti_terms.specs.Resolve.{over, raised, resolve}
use Rattle.cti_terms.specs.Unify.{Binding}
use Rattle.cti_terms.proofs.Bounds.{zero_alone}
use Rattle.ld_resolver.specs.declared.answer.Answer.{Answer}
use Rattle.ld_resolver.specs.declared.choices.Choice.{Choice}
use Rattle.ld_resolver.specs.declared.running.Ending.TheVariants.{Overflow}
use Rattle.unifier.specs.Store.{made, full}
use Rattle.ld_resolver.specs.Tails.{tail_at}
use Rattle.ld_resolver.specs.Told.{told}
use Rattle.ld_resolver.specs.Walk.{Visit, entered, walk_by, walk, visit, most_steps, met_answers}
use Rattle.ld_resolver.specs.Choices.{kept, goal_of, left}
use Rattle.ld_resolver.specs.Progress.{IsDone, HasEnded}
use Rattle.ld_resolver.proofs.SearchLaws.{met_by_none}
use Rattle.ld_resolver.proofs.WalkLaws.{walk_nodes, most_visits, met_visits, wide_visits, most_steps-append}
use Rattle.ld_resolver.proofs.WideLaws.{visited_to}

-- ---- a choice at number 0

module _ (p : Listing) (prog : IsProgram p) (q : List Atom) (n : ℕ) (s : List Binding) (rests : List (List Atom)) (c : Choice) (below : List Choice) (b : Builtin) (itself : c.next ≡ 0) (built : kind_of p.arithmetic c.atom.now.pred.0 ≡ Some b) where
  by_clause : (j : ℕ) → 1 ≤ j → resolve p (goal_of s rests c) j ≡ None
  by_clause zero l = absurd (omega (arith, l))
  by_clause (suc i) l = zero_alone p (over (full (kept s c.mark)) (raised c.base c.atom.now)) (map (over (full (kept s c.mark))) (tail_at rests c.rest)) c.fresh i b prog built

  by_clauses : walk_by p q (walk p q (n - c.depth)) (made (kept s c.mark)) c.depth (goal_of s rests c) (range_with_len 1 (length p.clauses)) ≡ []
  by_clauses =
      ap (λ k. walk_by p q (walk p q (n - c.depth)) (made (kept s c.mark)) c.depth (goal_of s rests c) (range_with_len 1 k)) (let e : length p.clauses ≡ suc (length p.clauses) - 1 = omega arith in e)
      ∙ met_by_none p q (walk p q (n - c.depth)) (made (kept s c.mark)) c.depth (goal_of s rests c) 1 (length p.clauses) (suc (length p.clauses)) (omega arith) (omega arith) (λ j low high. by_clause j low)
      ∙ ap (λ k. walk_by p q (walk p q (n - c.depth)) (made (kept s c.mark)) c.depth (goal_of s rests c) (range_with_len (suc (length p.clauses)) k)) (let e : suc (length p.clauses) - suc (length p.clauses) ≡ 0 = omega arith in e)

  -- the atom itself leaves a goal or none, and the choice goes
  pub left_by_itself : left p q n s rests (c ∷ below) ≡ entered p.arithmetic q (walk p q (n - c.depth)) (made (kept s c.mark)) c.depth (resolve p (goal_of s rests c) 0) ++ left p q n s rests below
  left_by_itself =
      ap (λ k. walk_by p q (walk p q (n - c.depth)) (made (kept s c.mark)) c.depth (goal_of s rests c) (range_with_len k (suc (length p.clauses) - k)) ++ left p q n s rests below) itself
      ∙ ap (λ k. walk_by p q (walk p q (n - c.depth)) (made (kept s c.mark)) c.depth (goal_of s rests c) (range_with_len 0 k) ++ left p q n s rests below) (let e : suc (length p.clauses) - 0 ≡ suc (length p.clauses) = omega arith in e)
      ∙ ap (λ (vs : List Visit). (entered p.arithmetic q (walk p q (n - c.depth)) (made (kept s c.mark)) c.depth (resolve p (goal_of s rests c) 0) ++ vs) ++ left p q n s rests below) by_clauses
      ∙ ap (λ (vs : List Visit). vs ++ left p q n s rests below) (append-nil (entered p.arithmetic q (walk p q (n - c.depth)) (made (kept s c.mark)) c.depth (resolve p (goal_of s rests c) 0)))

-- ---- the end at a wide goal

-- where a list's images lie on both sides of one of them
record Split {X Y : Type 0} (f : X → Y) (xs : List X) (ys : List Y) (y : Y) : Type 0 where
  front : List X
  at : X
  back : List X
  are : xs ≡ front ++ at ∷ back
  fronts : map f front ≡ ys
  here : f at ≡ y

abbrev head_or : {Y : Type 0} → Y → List Y → Y
head_or z [] = z
head_or z (y ∷ ys) = y

split : {X Y : Type 0} (f : X → Y) (xs : List X) (ys zs : List Y) (y : Y) → map f xs ≡ ys ++ y ∷ zs → Split f xs ys y
split f [] [] zs y e = cc
split f [] (w ∷ ws) zs y e = cc
split f (x ∷ xs) [] zs y e = record { front = []; at = x; back = xs; are = refl; fronts = refl; here = ap (head_or y) e }
split f (x ∷ xs) (w ∷ ws) zs y e =
    let s = split f xs ws zs y (ap (drop 1) e) in
    record { front = x ∷ s.front; at = s.at; back = s.back; are = ap (λ l. x ∷ l) s.are; fronts = λ i. ap (head_or w) e i ∷ s.fronts i; here = s.here }

take_past : {X : Type 0} (n : ℕ) (xs zs : List X) (x : X) → length xs < n → (ys : List X) × (take n (xs ++ x ∷ zs) ≡ xs ++ x ∷ ys)
take_past zero xs zs x l = absurd (omega (arith, l))
take_past (suc n) [] zs x l = (take n zs, refl)
take_past (suc n) (w ∷ xs) zs x l = let r = take_past n xs zs x (omega (arith, l)) in (r.0, ap (λ l. w ∷ l) r.1)

any_at : {X : Type 0} (f : X → Bool) (xs zs : List X) (x : X) → f x ≡ true → list_any f (xs ++ x ∷ zs) ≡ true
any_at f [] zs x e = ap (λ b. b || list_any f zs) e
any_at f (w ∷ xs) zs x e = ap (λ b. f w || b) (any_at f xs zs x e) ∙ go (f w)
  where
    go : (b : Bool) → (b || true) ≡ true
    go true = refl
    go false = refl

-- the query itself is wide
pub begun_wide : (p : Listing) (g : Goal) (n : ℕ) → answer_by g.atoms [] g.atoms ≡ None → begins_wide p.arithmetic g.atoms ≡ true → HasEnded p g n Overflow 0 0 []
begun_wide p g n none w = record {
  told_all = ap (λ (o : Option (List Atom)). map told (cons_option o [])) (sym none) ∙ ap (λ (ns : List (List ℕ)). map told (filter_map (answer_of p g) ns)) (sym all);
  counted = ap (λ (ns : List (List ℕ)). length (drop 1 ns)) (sym all);
  most_of_all = ap (λ (ns : List (List ℕ)). longest (drop 1 ns)) (sym all);
  ended = any_at (leaves_wide p g) [] (first_nodes p g n) [] w;
}
  where
    all : visited p g n ≡ [] ∷ []
    all = visited_to p g [] (first_nodes p g n) [] refl w

-- a node leaves a wide goal
module _ (p : Listing) (g : Goal) (n : ℕ) (done rest : List Visit) (here : Visit) (steps most : ℕ) (told_now : List Answer) (d : IsDone p g n done (here ∷ rest) steps most told_now) (less : steps < n) (begins : begins_wide p.arithmetic g.atoms ≡ false) (none : here.answer ≡ None) (w : here.wide ≡ true) where
  parts : Split (visit p g.atoms [] 0 g) (nodes p (suc n) g) done here
  parts = split (visit p g.atoms [] 0 g) (nodes p (suc n) g) done rest here (sym (walk_nodes p g.atoms (suc n) [] 0 g) ∙ d.walked)

  short : length parts.front ≡ steps
  short = sym (length-map parts.front (visit p g.atoms [] 0 g)) ∙ ap length parts.fronts ∙ d.counted

  firsts : (ys : List (List ℕ)) × (first_nodes p g n ≡ parts.front ++ parts.at ∷ ys)
  firsts =
      let t = take_past n parts.front parts.back parts.at (omega (arith, less, short)) in
      (t.0, ap (take n) parts.are ∙ t.1)

  fit : list_any (leaves_wide p g) ([] ∷ parts.front) ≡ false
  fit = λ i. begins i || (sym (wide_visits p g parts.front) ∙ ap (list_any (λ (v : Visit). v.wide)) parts.fronts ∙ d.fit) i

  wide_there : leaves_wide p g parts.at ≡ true
  wide_there = ap (λ (v : Visit). v.wide) parts.here ∙ w

  all : visited p g n ≡ ([] ∷ parts.front) ++ parts.at ∷ []
  all = ap (λ (ns : List (List ℕ)). up_to_wide p g ([] ∷ ns)) firsts.1 ∙ visited_to p g ([] ∷ parts.front) firsts.0 parts.at fit wide_there

  counts : length (parts.front ++ parts.at ∷ []) ≡ steps + 1
  counts = omega (arith, length-append parts.front (parts.at ∷ []), short)

  same_most : max most here.steps ≡ longest (parts.front ++ parts.at ∷ [])
  same_most =
      let visits : map (visit p g.atoms [] 0 g) (parts.front ++ parts.at ∷ []) ≡ done ++ here ∷ [] = map-append (visit p g.atoms [] 0 g) parts.front (parts.at ∷ []) ∙ (λ i. parts.fronts i ++ parts.here i ∷ []) in
      let sum : max most here.steps ≡ most_steps (done ++ here ∷ []) = omega (arith, most_steps-append done (here ∷ []), d.most) in
      sum ∙ ap most_steps (sym visits) ∙ most_visits p g (parts.front ++ parts.at ∷ [])

  no_more_told : filter_map (answer_of p g) ([] ∷ parts.front) ≡ filter_map (answer_of p g) (([] ∷ parts.front) ++ parts.at ∷ [])
  no_more_told =
      sym (append-nil (filter_map (answer_of p g) ([] ∷ parts.front)))
      ∙ ap (λ (o : Option (List Atom)). filter_map (answer_of p g) ([] ∷ parts.front) ++ cons_option o []) (sym none ∙ sym (ap (λ (v : Visit). v.answer) parts.here))
      ∙ sym (filter_map-append (answer_of p g) ([] ∷ parts.front) (parts.at ∷ []))

  pub ends_wide : HasEnded p g n Overflow (steps + 1) (max most here.steps) told_now
  ends_wide = record {
    told_all =
        d.told_so_far
        ∙ ap (λ (l : List (List Atom)). map told (cons_option (answer_by g.atoms [] g.atoms) l)) (ap met_answers (sym parts.fronts) ∙ met_visits p g parts.front)
        ∙ ap (map told) no_more_told
        ∙ ap (λ (ns : List (List ℕ)). map told (filter_map (answer_of p g) ns)) (sym all);
    counted = sym counts ∙ ap (λ (ns : List (List ℕ)). length (drop 1 ns)) (sym all);
    most_of_all = same_most ∙ ap (λ (ns : List (List ℕ)). longest (drop 1 ns)) (sym all);
    ended = subst (λ (ns : List (List ℕ)). IsTrue (list_any (leaves_wide p g) ([] ∷ ns))) (sym firsts.1) (any_at (leaves_wide p g) ([] ∷ parts.front) firsts.0 parts.at wide_there);
  }
