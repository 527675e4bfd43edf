-- How a run goes on, and what it says when it ends.
use Rattle.std.proofs.Common.{◌≡◌, ◌↔◌, ℕ, zero, suc, max, Bool, true, false, ◌||◌, filter_map, drop, ◌+◌, ◌-◌, ◌<◌, ◌≤◌, IsTrue, List, [], ◌∷◌, ◌++◌, map, reverse, take, length, Option, None, Some, append_assoc, append-nil, length-append, refl, ap, sym, ◌∙◌, subst, arith}
use Rattle.std.specs.List.{AllByRecursion, cons_option, list_any}
use Rattle.std.proofs.lemmas.List.{map-append, length-map}
use Rattle.std.proofs.lemmas.List.Elements.{filter_map-append}
use Rattle.cti_terms.specs.Tree.{Tree, instance, is_below}
use Rattle.cti_terms.specs.declared.atom_list.Atom.{Atom}
use Rattle.cti_terms.specs.declared.derivation.Goal.{Goal}
use Rattle.cti_terms.specs.declared.predicates.Pred.{Pred}
use Rattle.cti_terms.specs.Listing.{Listing, IsAtom}
use Rattle.cti_terms.specs.Unify.{Binding}
use Rattle.cti_terms.specs.Resolve.{over, raised}
use Rattle.cti_terms.specs.Nodes.{nodes, first_nodes, HasMoreNodes, longest}
use Rattle.cti_terms.specs.Arithmetic.{begins_wide}
use Rattle.cti_terms.specs.Answers.{answer_by, answer_of, answers, leaves_wide, visited, visited_nodes, HasWide}
use Rattle.cti_terms.specs.Below.{TermBelow, ArgumentsBelow, AtomsBelow}
use Rattle.ld_resolver.specs.declared.answer.Answer.{Answer}
use Rattle.ld_resolver.specs.declared.running.Ending.{Ending}
use Rattle.ld_resolver.specs.declared.running.Ending.TheVariants.{Finished, Stopped, Overflow}
use Rattle.ld_resolver.specs.declared.search.Entered.TheVariants.{Empty, Open, Wide}
use Rattle.ld_resolver.specs.declared.search.Node.{Node}
use Rattle.ld_resolver.specs.declared.search.Search.{Search}
use Rattle.unifier.specs.Raised.{raise}
use Rattle.unifier.specs.Store.{made, full}
use Rattle.ld_resolver.specs.Told.{told}
use Rattle.ld_resolver.specs.Tails.{tail_at}
use Rattle.ld_resolver.specs.Measured.{answered_atoms}
use Rattle.ld_resolver.specs.Walk.{Visit, visit, walk, most_steps, met_answers}
use Rattle.ld_resolver.specs.declared.choices.Choice.{Choice}
use Rattle.ld_resolver.specs.Choices.{left, AreChoices}
use Rattle.ld_resolver.specs.Searches.{AreWithin, IsSearch, IsNode, IsEntered, goal_with, node_goal, left_of, choices_of, attempts_at, attempts_left}
use Rattle.ld_resolver.specs.Progress.{scaled, told_after, IsDone, IsUnderWay, EndsAs, HasEnded, to_do}
use Rattle.ld_resolver.proofs.BuiltinChoices.{ends_wide}
use Rattle.unifier.proofs.BelowLaws.{raised_below, raised_zero}
use Rattle.ld_resolver.proofs.SearchLaws.{walk_none}
use Rattle.ld_resolver.proofs.WalkLaws.{walk_nodes, most_visits, met_visits, wide_visits, most_steps-append}
use Rattle.ld_resolver.proofs.WideLaws.{all_visited}

-- ---- the goal of a query

args_same : (ts : List Tree) → map (full []) (map (instance (raise 0)) ts) ≡ ts
args_same [] = refl
args_same (t ∷ ts) = λ i. raised_zero t i ∷ args_same ts i

pub atoms_same : (atoms : List Atom) → map (over (full [])) (map (raised 0) atoms) ≡ atoms
atoms_same [] = refl
atoms_same (a ∷ atoms) = λ i. record { pred = a.pred; args = args_same a.args i } ∷ atoms_same atoms i

pub root_goal : (g : Goal) → goal_with [] (map (raised 0) g.atoms) [] g.fresh ≡ g
root_goal g = λ i. record { atoms = (ap (map (over (full []))) (append-nil (map (raised 0) g.atoms)) ∙ atoms_same g.atoms) i; fresh = g.fresh }

args_below : (n : ℕ) (ts : List Tree) → AllByRecursion (λ t. IsTrue (is_below n t)) ts → ArgumentsBelow n ts
args_below n [] h = tt
args_below n (t ∷ ts) h = (here, args_below n ts h.1)
  where
    here : TermBelow n t
    here = subst (TermBelow n) (raised_zero t) (λ y o. let k = raised_below 0 n t h.0 y o in omega (arith, k))

pub query_below : (preds : List Pred) (n : ℕ) (atoms : List Atom) → AllByRecursion (IsAtom preds n) atoms → AtomsBelow n atoms
query_below preds n [] h = tt
query_below preds n (a ∷ atoms) h = (args_below n a.args h.0.below, query_below preds n atoms h.1)

-- ---- one more visit

cons_option-append : (o : Option (List Atom)) (xs ys : List (List Atom)) → cons_option o (xs ++ ys) ≡ cons_option o xs ++ ys
cons_option-append None xs ys = refl
cons_option-append (Some x) xs ys = refl

told_more : (g : Goal) (done : List Visit) (v : Visit) → told_after g (done ++ v ∷ []) ≡ told_after g done ++ map told (cons_option v.answer [])
told_more g done v =
    ap (λ (l : List (List Atom)). map told (cons_option (answer_by g.atoms [] g.atoms) l)) (filter_map-append (λ (v : Visit). v.answer) done (v ∷ []))
    ∙ ap (map told) (cons_option-append (answer_by g.atoms [] g.atoms) (met_answers done) (cons_option v.answer []))
    ∙ map-append told (cons_option (answer_by g.atoms [] g.atoms) (met_answers done)) (cons_option v.answer [])

any_more : {X : Type 0} (f : X → Bool) (xs : List X) (x : X) → list_any f xs ≡ false → f x ≡ false → list_any f (xs ++ x ∷ []) ≡ false
any_more f [] x h e = ap (λ b. b || false) e
any_more f (y ∷ ys) x h e = go (f y) h (λ k. any_more f ys x k e)
  where
    go : (b : Bool) → (b || list_any f ys) ≡ false → (list_any f ys ≡ false → list_any f (ys ++ x ∷ []) ≡ false) → (b || list_any f (ys ++ x ∷ [])) ≡ false
    go true k rec = cc
    go false k rec = rec k

pub done_more : (p : Listing) (g : Goal) (n : ℕ) (done left left_now : List Visit) (v : Visit) (steps longest : ℕ) (old now : List Answer) → IsDone p g n done left steps longest old → left ≡ v ∷ left_now → now ≡ old ++ map told (cons_option v.answer []) → v.wide ≡ false → IsDone p g n (done ++ v ∷ []) left_now (steps + 1) (max longest v.steps) now
done_more p g n done left left_now v steps longest old now d e h fits = record {
  walked = d.walked ∙ ap (λ (l : List Visit). done ++ l) e ∙ sym (append_assoc done (v ∷ []) left_now);
  counted = omega (arith, length-append done (v ∷ []), d.counted);
  most = omega (arith, most_steps-append done (v ∷ []), d.most);
  told_so_far = h ∙ ap (λ (l : List Answer). l ++ map told (cons_option v.answer [])) d.told_so_far ∙ sym (told_more g done v);
  fit = any_more (λ (v : Visit). v.wide) done v d.fit fits;
}

-- ---- the measure

pub scaled_less : (n steps w : ℕ) → steps < n → scaled (n - steps) w ≡ w + scaled (n - (steps + 1)) w
scaled_less n steps w h = ap (λ k. scaled k w) (let e : n - steps ≡ suc (n - (steps + 1)) = omega (arith, h) in e)

-- ---- the end

pub map-take : {X Y : Type 0} (f : X → Y) (n : ℕ) (xs : List X) → map f (take n xs) ≡ take n (map f xs)
map-take f zero xs = refl
map-take f (suc n) [] = refl
map-take f (suc n) (x ∷ xs) = ap (λ l. f x ∷ l) (map-take f n xs)

take_front : {X : Type 0} (n : ℕ) (xs ys : List X) → length xs ≡ n → take n (xs ++ ys) ≡ xs
take_front zero [] ys h = refl
take_front zero (x ∷ xs) ys h = absurd (omega (arith, h))
take_front (suc n) [] ys h = absurd (omega (arith, h))
take_front (suc n) (x ∷ xs) ys h = ap (λ l. x ∷ l) (take_front n xs ys (omega (arith, h)))

take_more_than : {X : Type 0} (n : ℕ) (xs : List X) → length xs ≤ n → take n xs ≡ xs
take_more_than zero [] h = refl
take_more_than zero (x ∷ xs) h = absurd (omega (arith, h))
take_more_than (suc n) [] h = refl
take_more_than (suc n) (x ∷ xs) h = ap (λ l. x ∷ l) (take_more_than n xs (omega (arith, h)))

module _ (p : Listing) (g : Goal) (n : ℕ) where
  all : List (List ℕ)
  all = nodes p (suc n) g

  seen : List ℕ → Visit
  seen = visit p g.atoms [] 0 g

  abbrev pub IsSeen : List Visit → Type 0
  IsSeen done = map (visit p g.atoms [] 0 g) (first_nodes p g n) ≡ done

  -- no more is left
  pub seen_all : (done : List Visit) (steps most : ℕ) (told_now : List Answer) → IsDone p g n done [] steps most told_now → steps ≤ n → IsSeen done
  seen_all done steps most told_now d within =
      let walked = sym (walk_nodes p g.atoms (suc n) [] 0 g) ∙ d.walked ∙ append-nil done in
      map-take (visit p g.atoms [] 0 g) n (nodes p (suc n) g)
      ∙ ap (take n) walked
      ∙ take_more_than n done (omega (arith, d.counted, within))

  pub none_left : (done : List Visit) (steps most : ℕ) (told_now : List Answer) → IsDone p g n done [] steps most told_now → steps ≤ n → HasMoreNodes p g n → ⊥
  none_left done steps most told_now d within more =
      let walked = sym (walk_nodes p g.atoms (suc n) [] 0 g) ∙ d.walked ∙ append-nil done in
      let count = sym (length-map (nodes p (suc n) g) (visit p g.atoms [] 0 g)) ∙ ap length walked in
      omega (arith, count, d.counted, within, more)

  -- as many as the budget were seen, and one more is left
  pub seen_first : (done left : List Visit) (steps most : ℕ) (told_now : List Answer) → IsDone p g n done left steps most told_now → steps ≡ n → IsSeen done
  seen_first done left steps most told_now d e =
      let walked = sym (walk_nodes p g.atoms (suc n) [] 0 g) ∙ d.walked in
      map-take (visit p g.atoms [] 0 g) n (nodes p (suc n) g)
      ∙ ap (take n) walked
      ∙ take_front n done left (d.counted ∙ e)

  pub one_left : (done left rest : List Visit) (v : Visit) (steps most : ℕ) (told_now : List Answer) → IsDone p g n done left steps most told_now → steps ≡ n → left ≡ v ∷ rest → HasMoreNodes p g n
  one_left done left rest v steps most told_now d e l =
      let walked = sym (walk_nodes p g.atoms (suc n) [] 0 g) ∙ d.walked ∙ ap (λ (w : List Visit). done ++ w) l in
      let count = sym (length-map (nodes p (suc n) g) (visit p g.atoms [] 0 g)) ∙ ap length walked ∙ length-append done (v ∷ rest) in
      omega (arith, count, d.counted, e)

  -- what was seen says what was counted
  module _ (done left : List Visit) (steps most : ℕ) (told_now : List Answer) (d : IsDone p g n done left steps most told_now) (s : map (visit p g.atoms [] 0 g) (first_nodes p g n) ≡ done) (b : begins_wide p.arithmetic g.atoms ≡ false) where
    none_wide : list_any (leaves_wide p g) (first_nodes p g n) ≡ false
    none_wide = sym (wide_visits p g (first_nodes p g n)) ∙ ap (list_any (λ (v : Visit). v.wide)) s ∙ d.fit

    pub all_fit : list_any (leaves_wide p g) ([] ∷ first_nodes p g n) ≡ false
    all_fit = λ i. b i || none_wide i

    everything : visited p g n ≡ [] ∷ first_nodes p g n
    everything = all_visited p g ([] ∷ first_nodes p g n) all_fit

    nodes_all : visited_nodes p g n ≡ first_nodes p g n
    nodes_all = ap (drop 1) everything

    pub counted_is : steps ≡ length (visited_nodes p g n)
    counted_is = sym d.counted ∙ ap length (sym s) ∙ length-map (first_nodes p g n) (visit p g.atoms [] 0 g) ∙ ap length (sym nodes_all)

    pub most_is : most ≡ longest (visited_nodes p g n)
    most_is = sym d.most ∙ ap most_steps (sym s) ∙ most_visits p g (first_nodes p g n) ∙ ap longest (sym nodes_all)

    pub told_is : told_now ≡ map told (answers p g n)
    told_is =
        d.told_so_far
        ∙ ap (λ (l : List (List Atom)). map told (cons_option (answer_by g.atoms [] g.atoms) l)) (ap met_answers (sym s) ∙ met_visits p g (first_nodes p g n))
        ∙ ap (λ (ns : List (List ℕ)). map told (filter_map (answer_of p g) ns)) (sym everything)

-- ---- a run that has ended

-- how a run ends says which way it is
module _ (p : Listing) (g : Goal) (n : ℕ) where
  pub stopped_is : (e : Ending) → EndsAs p g n e → (e ≡ Stopped) ↔ ((HasWide p g n → ⊥) × HasMoreNodes p g n)
  stopped_is Finished h = ((λ d. cc), λ w. absurd (h.1 w.1))
  stopped_is Stopped h = ((λ d. h), λ w. refl)
  stopped_is Overflow h = ((λ d. cc), λ w. absurd (w.0 h))

  pub finished_is : (e : Ending) → EndsAs p g n e → (e ≡ Finished) ↔ ((HasWide p g n → ⊥) × (HasMoreNodes p g n → ⊥))
  finished_is Finished h = ((λ d. h), λ w. refl)
  finished_is Stopped h = ((λ d. cc), λ w. absurd (w.1 h.1))
  finished_is Overflow h = ((λ d. cc), λ w. absurd (w.0 h))

  pub overflow_is : (e : Ending) → EndsAs p g n e → (e ≡ Overflow) ↔ HasWide p g n
  overflow_is Finished h = ((λ d. cc), λ w. absurd (h.0 w))
  overflow_is Stopped h = ((λ d. cc), λ w. absurd (h.0 w))
  overflow_is Overflow h = ((λ d. h), λ w. refl)

never_wide : IsTrue false → ⊥
never_wide h = cc

none_in : (x : Search) (q : List Atom) (n : ℕ) → choices_of x ≡ [] → left_of q n x ≡ []
none_in x q n e = ap (left x.program.now q n x.bindings x.tails) e

module _ {p : Listing} {g : Goal} {n : ℕ} {x : Search} {steps most : ℕ} {told_now : List Answer} (u : IsUnderWay p g n x steps most told_now) where
  -- nothing is left
  module _ (e : choices_of x ≡ []) where
    done_all : IsDone p g n u.done.0 [] steps most told_now
    done_all = subst (λ (l : List Visit). IsDone p g n u.done.0 l steps most told_now) (none_in x g.atoms n e) u.done.1

    ended_without_more : HasMoreNodes p g n → ⊥
    ended_without_more = none_left p g n u.done.0 steps most told_now done_all u.within

    pub ended_says : HasEnded p g n Finished steps most told_now
    ended_says =
        let s = seen_all p g n u.done.0 steps most told_now done_all u.within in
        record {
          told_all = told_is p g n u.done.0 [] steps most told_now done_all s u.begins;
          counted = counted_is p g n u.done.0 [] steps most told_now done_all s u.begins;
          most_of_all = most_is p g n u.done.0 [] steps most told_now done_all s u.begins;
          ended = (λ w. never_wide (subst IsTrue (all_fit p g n u.done.0 [] steps most told_now done_all s u.begins) w), ended_without_more);
        }

  -- the budget is used up, and one more node was found
  module _ (e : steps ≡ n) (v : Visit) (rest : List Visit) (l : left_of g.atoms n x ≡ v ∷ rest) where
    stopped_with_more : HasMoreNodes p g n
    stopped_with_more = one_left p g n u.done.0 (left_of g.atoms n x) rest v steps most told_now u.done.1 e l

    pub stopped_says : HasEnded p g n Stopped steps most told_now
    stopped_says =
        let s = seen_first p g n u.done.0 (left_of g.atoms n x) steps most told_now u.done.1 e in
        record {
          told_all = told_is p g n u.done.0 (left_of g.atoms n x) steps most told_now u.done.1 s u.begins;
          counted = counted_is p g n u.done.0 (left_of g.atoms n x) steps most told_now u.done.1 s u.begins;
          most_of_all = most_is p g n u.done.0 (left_of g.atoms n x) steps most told_now u.done.1 s u.begins;
          ended = (λ w. never_wide (subst IsTrue (all_fit p g n u.done.0 (left_of g.atoms n x) steps most told_now u.done.1 s u.begins) w), stopped_with_more);
        }

-- ---- the same search

pub record SameSearch (x y : Search) : Type 0 where
  pub program : y.program.now ≡ x.program.now
  pub bindings : y.bindings ≡ x.bindings
  pub tails : y.tails ≡ x.tails
  pub choices : y.choices.items ≡ x.choices.items

module _ (x y : Search) (e : SameSearch x y) where
  same_left : (q : List Atom) (n : ℕ) → left_of q n x ≡ left_of q n y
  same_left q n = λ i. left (sym e.program i) q n (sym e.bindings i) (sym e.tails i) (reverse (sym e.choices i))

  same_is : IsSearch x → IsSearch y
  same_is h = subst (λ (w : Listing × List Binding × List (List Atom) × List Choice). AreChoices w.0 w.1 w.2 (reverse w.3)) (λ i. (sym e.program i, sym e.bindings i, sym e.tails i, sym e.choices i)) h

  same_within : (d : ℕ) → AreWithin d (choices_of x) → AreWithin d (choices_of y)
  same_within d h = subst (λ (l : List Choice). AreWithin d (reverse l)) (sym e.choices) h

  pub same_attempts : attempts_left y ≡ attempts_left x
  same_attempts = λ i. attempts_at (e.program i) (reverse (e.choices i))

  pub same_under_way : (p : Listing) (g : Goal) (n steps most : ℕ) (told_now : List Answer) → IsUnderWay p g n x steps most told_now → IsUnderWay p g n y steps most told_now
  same_under_way p g n steps most told_now u = record {
    search = same_is u.search;
    program = e.program ∙ u.program;
    done = (u.done.0, subst (λ (l : List Visit). IsDone p g n u.done.0 l steps most told_now) (same_left g.atoms n) u.done.1);
    within = u.within;
    begins = u.begins;
    depth = same_within steps u.depth;
  }

-- nothing is left to be tried where there is no choice
pub no_attempts : (x : Search) → x.choices.items ≡ [] → attempts_left x ≡ 0
no_attempts x e = ap (λ (l : List Choice). attempts_at x.program.now (reverse l)) e

-- ---- a node that is entered

within_more : (d : ℕ) (cs : List Choice) → AreWithin d cs → AreWithin (d + 1) cs
within_more d [] h = tt
within_more d (c ∷ cs) h = (omega (arith, h.0), within_more d cs h.1)

-- a node that was found is entered by a run that can look at one more
pub record IsNodeEntered (p : Listing) (g : Goal) (n : ℕ) (old mid new : Search) (c : Node) (steps most most_now : ℕ) (told_now : List Answer) : Type 0 where
  pub under_way : IsUnderWay p g n old steps most told_now
  pub node : IsNode old c mid
  pub less : steps < n
  pub longest : max most (c.depth + 1) ≡ most_now
  pub program_mid : mid.program.now ≡ old.program.now
  pub depths_mid : (d : ℕ) → AreWithin d (choices_of old) → AreWithin d (choices_of mid)
  pub search : IsSearch new
  pub program : new.program.now ≡ mid.program.now
  pub bindings : new.bindings ≡ mid.bindings
  pub attempts : attempts_left new ≤ attempts_left mid + length mid.program.now.clauses + 2
  pub depths : (d : ℕ) → AreWithin d (choices_of mid) → c.depth + 1 ≤ d → AreWithin d (choices_of new)

module _ {p : Listing} {g : Goal} {n : ℕ} {old mid new : Search} {c : Node} {steps most most_now : ℕ} {told_now : List Answer} (is : IsNodeEntered p g n old mid new c steps most most_now told_now) where
  bound : c.depth ≤ steps
  bound = is.node.within steps is.under_way.depth

  deep : suc (n - (c.depth + 1)) ≡ n - c.depth
  deep = omega (arith, bound, is.less)

  within_new : AreWithin (steps + 1) (choices_of new)
  within_new = is.depths (steps + 1) (within_more steps (choices_of mid) (is.depths_mid steps is.under_way.depth)) (omega (arith, bound))

  abbrev here : Visit
  here = record { steps = c.depth + 1; answer = answer_by g.atoms (made mid.bindings) (node_goal mid c).atoms; wide = begins_wide mid.program.now.arithmetic (node_goal mid c).atoms }

  abbrev below_here : ℕ → List Visit
  below_here d = walk mid.program.now g.atoms d (made mid.bindings) (c.depth + 1) (node_goal mid c)

  -- it is met after those that were done
  one_more : (left_now : List Visit) (now : List Answer) → left_of g.atoms n old ≡ here ∷ left_now → now ≡ told_now ++ map told (cons_option here.answer []) → here.wide ≡ false → (done : List Visit) × IsDone p g n done left_now (steps + 1) most_now now
  one_more left_now now e h fits = (
    is.under_way.done.0 ++ here ∷ [],
    subst (λ m. IsDone p g n (is.under_way.done.0 ++ here ∷ []) left_now (steps + 1) m now) is.longest (done_more p g n is.under_way.done.0 (left_of g.atoms n old) left_now here steps most told_now now is.under_way.done.1 e h fits),
  )

  -- it has atoms
  pub with_atoms : IsEntered mid (c.depth + 1) (node_goal mid c) Open new → IsUnderWay p g n new (steps + 1) most_now told_now
  with_atoms e = record {
    search = is.search;
    program = is.program ∙ is.program_mid ∙ is.under_way.program;
    done = one_more (left_of g.atoms n new) told_now left_now told_same e.2;
    within = omega (arith, is.less);
    begins = is.under_way.begins;
    depth = within_new;
  }
    where
      left_now : left_of g.atoms n old ≡ here ∷ left_of g.atoms n new
      left_now = is.node.met g.atoms n ∙ ap (λ (w : List Visit). here ∷ w) (ap (λ d. below_here d ++ left_of g.atoms n mid) (sym deep) ∙ e.1 g.atoms n)

      told_same : told_now ≡ told_now ++ map told (cons_option here.answer [])
      told_same = sym (append-nil told_now) ∙ ap (λ (o : Option (List Atom)). told_now ++ map told (cons_option o [])) (sym (e.0 g.atoms (made mid.bindings)))

  -- it has none, and is an answer
  pub without_atoms : IsEntered mid (c.depth + 1) (node_goal mid c) Empty new → IsUnderWay p g n new (steps + 1) most_now (told_now ++ told (answered_atoms new.bindings g.atoms) ∷ [])
  without_atoms e = record {
    search = is.search;
    program = is.program ∙ is.program_mid ∙ is.under_way.program;
    done = one_more (left_of g.atoms n new) (told_now ++ told (answered_atoms new.bindings g.atoms) ∷ []) left_now told_one (ap (begins_wide mid.program.now.arithmetic) e.0);
    within = omega (arith, is.less);
    begins = is.under_way.begins;
    depth = within_new;
  }
    where
      left_now : left_of g.atoms n old ≡ here ∷ left_of g.atoms n new
      left_now =
          is.node.met g.atoms n
          ∙ ap (λ (w : List Visit). here ∷ w)
          (ap (λ (w : List Visit). w ++ left_of g.atoms n mid) (walk_none mid.program.now g.atoms (n - c.depth) (made mid.bindings) (c.depth + 1) (node_goal mid c) e.0)
          ∙ e.1 g.atoms n)

      told_one : told_now ++ told (answered_atoms new.bindings g.atoms) ∷ [] ≡ told_now ++ map told (cons_option here.answer [])
      told_one =
          ap (λ (s : List Binding). told_now ++ told (answered_atoms s g.atoms) ∷ []) is.bindings
          ∙ ap (λ (l : List Atom). told_now ++ map told (cons_option (answer_by g.atoms (made mid.bindings) l) [])) (sym e.0)

  -- it begins with a wide atom, and the run ends
  pub ended_wide : IsEntered mid (c.depth + 1) (node_goal mid c) Wide new → HasEnded p g n Overflow (steps + 1) most_now told_now
  ended_wide e =
      let u = is.under_way in
      let done = subst (λ (l : List Visit). IsDone p g n u.done.0 l steps most told_now) (is.node.met g.atoms n) u.done.1 in
      subst (λ m. HasEnded p g n Overflow (steps + 1) m told_now) is.longest
      (ends_wide p g n u.done.0 (below_here (n - c.depth) ++ left_of g.atoms n mid) here steps most told_now done is.less u.begins (e.0 g.atoms (made mid.bindings)) e.1)

  -- and less is to be done
  pub less_to_do : to_do p n new (steps + 1) < to_do p n old steps
  less_to_do =
      let s = scaled_less n steps (suc (suc (length p.clauses))) is.less in
      let f = is.node.fewer in
      let clauses = ap (λ (l : Listing). length l.clauses) (is.program_mid ∙ is.under_way.program) in
      omega (arith, s, f, is.attempts, clauses)

-- ---- the goal of the query is entered

pub entered_goal : (g : Goal) (s : List Binding) (rests : List (List Atom)) (atoms : List Atom) → s ≡ [] → atoms ≡ g.atoms → goal_with s (map (raised 0) atoms) (tail_at rests 0) g.fresh ≡ g
entered_goal g s rests atoms b e = (λ i. goal_with (b i) (map (raised 0) (e i)) [] g.fresh) ∙ root_goal g

-- a search that has done nothing enters the query
pub record IsQueryEntered (old new : Search) : Type 0 where
  pub no_bindings : old.bindings ≡ []
  pub no_choices : old.choices.items ≡ []
  pub search : IsSearch new
  pub program : new.program.now ≡ old.program.now
  pub bindings : new.bindings ≡ old.bindings
  pub depths : (d : ℕ) → AreWithin d (choices_of old) → 0 ≤ d → AreWithin d (choices_of new)

module _ {old new : Search} (is : IsQueryEntered old new) (g : Goal) (n : ℕ) where
  first_walk : walk old.program.now g.atoms (suc (n - 0)) (made old.bindings) 0 g ++ left_of g.atoms n old ≡ walk old.program.now g.atoms (suc n) [] 0 g
  first_walk =
      (λ i. walk old.program.now g.atoms (suc (n - 0)) (made (is.no_bindings i)) 0 g ++ left old.program.now g.atoms n old.bindings old.tails (reverse (is.no_choices i)))
      ∙ append-nil (walk old.program.now g.atoms (suc (n - 0)) [] 0 g)
      ∙ ap (λ d. walk old.program.now g.atoms (suc d) [] 0 g) (let e : n - 0 ≡ n = omega arith in e)

  none_deep : AreWithin 0 (choices_of new)
  none_deep = is.depths 0 (subst (λ (l : List Choice). AreWithin 0 (reverse l)) (sym is.no_choices) tt) (omega arith)

  pub begun_with_atoms : IsEntered old 0 g Open new → IsUnderWay old.program.now g n new 0 0 []
  begun_with_atoms e = record {
    search = is.search;
    program = is.program;
    done = (
      [],
      record {
        walked = sym first_walk ∙ e.1 g.atoms n;
        counted = refl;
        most = refl;
        told_so_far = ap (λ (o : Option (List Atom)). map told (cons_option o [])) (sym (e.0 g.atoms []));
        fit = refl;
      },
    );
    within = omega arith;
    begins = e.2;
    depth = none_deep;
  }

  pub begun_without_atoms : {last : Search} (a : Answer) → IsEntered old 0 g Empty new → SameSearch new last → a ≡ told (answered_atoms new.bindings g.atoms) → IsUnderWay old.program.now g n last 0 0 (a ∷ [])
  begun_without_atoms {last} a e same is_told = record {
    search = same_is new last same is.search;
    program = same.program ∙ is.program;
    done = (
      [],
      record {
        walked =
            walk_none old.program.now g.atoms (suc n) [] 0 g e.0
            ∙ (λ i. left old.program.now g.atoms n old.bindings old.tails (reverse (sym is.no_choices i)))
            ∙ e.1 g.atoms n
            ∙ same_left new last same g.atoms n;
        counted = refl;
        most = refl;
        told_so_far = told_one;
        fit = refl;
      },
    );
    within = omega arith;
    begins = ap (begins_wide old.program.now.arithmetic) e.0;
    depth = same_within new last same 0 none_deep;
  }
    where
      told_one : a ∷ [] ≡ told_after g []
      told_one =
          ap (λ (c : Answer). c ∷ []) (is_told ∙ ap (λ (s : List Binding). told (answered_atoms s g.atoms)) (is.bindings ∙ is.no_bindings))
          ∙ ap (λ (l : List Atom). map told (cons_option (answer_by g.atoms [] l) [])) (sym e.0)
