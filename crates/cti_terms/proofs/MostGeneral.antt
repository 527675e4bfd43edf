-- The stated unifier is most general.
--
-- Whatever solves the equations solves what each step of unification makes of them, and never meets a step that fails.
-- A step that binds x to t is met only where the solution gives both the same, so it can be made first.
use Rattle.std.proofs.Common.{◌≡◌, ℕ, zero, suc, ◌+◌, ◌<◌, ◌≤◌, Bool, true, false, ◌&&◌, ◌||◌, ◌==◌, if◌then◌else◌, List, [], ◌∷◌, ◌++◌, Some, true≢false, refl, ap, sym, ◌∙◌, subst, arith, eqb-true}
use Rattle.std.proofs.lemmas.Bool.{or_left, or_right}
use Rattle.std.proofs.lemmas.Bool.Decides.{nat_tests, Decides-int_eq}
use Rattle.std.specs.List.{AllByRecursion}
use Rattle.std.specs.Ordering.{int_eq}
use Rattle.cti_terms.specs.Tree.{Tree, Trees, Variable, Integer, Compound, End, More, instance, all_instances, arity, nodes_of, all_nodes}
use Rattle.cti_terms.specs.Unify.{Equation, Binding, Step, Dropped, Bound, Split, Failed, occurs, occurs_among, only, first_step, replaced, Unifies, none, drop, bind, split, pairs, applied}
use Rattle.cti_terms.specs.UnifyFunction.{work, occurs_in, above_equations, occurring, unify}
use Rattle.cti_terms.proofs.OneAnswer.{one_unifier}
use Rattle.cti_terms.proofs.Unifier.{applied_instance, instance_twice, unifier_unifies}
use Rattle.cti_terms.proofs.UnifyLaws.{AllBelow, below_equations, bind_gone, bind_inside, binds, nodes_positive, occurring_le, occurring_lt, replaced_inside, unify_complete, unify_finds, work-append, work_split}
use Rattle.cti_terms.specs.MostGeneral.{Solves, IsMostGeneral}

-- ---- solutions of single steps

mutual
  -- what stands for a variable is no larger than a term in which the variable occurs
  occurs_nodes : (a : ℕ → Tree) (x : ℕ) (t : Tree) → occurs x t ≡ true → nodes_of (a x) ≤ nodes_of (instance a t)
  occurs_nodes a x (Variable y) h =
      let same : x ≡ y = eqb-true x y h in
      subst (λ (z : ℕ). nodes_of (a x) ≤ nodes_of (a z)) same (omega arith)
  occurs_nodes a x (Integer n) h = cc
  occurs_nodes a x (Compound f ts) h = let l = occurs_all_nodes a x ts h in omega (arith, l)

  occurs_all_nodes : (a : ℕ → Tree) (x : ℕ) (ts : Trees) → occurs_among x ts ≡ true → nodes_of (a x) ≤ all_nodes (all_instances a ts)
  occurs_all_nodes a x End h = cc
  occurs_all_nodes a x (More t ts) h =
      either (occurs x t) (occurs_among x ts) h (occurs_nodes a x t) (occurs_all_nodes a x ts)
    where
      either : (b c : Bool) → (b || c) ≡ true → (b ≡ true → nodes_of (a x) ≤ nodes_of (instance a t)) → (c ≡ true → nodes_of (a x) ≤ all_nodes (all_instances a ts)) → nodes_of (a x) ≤ nodes_of (instance a t) + all_nodes (all_instances a ts)
      either true c k f g = let l = f refl in omega (arith, l)
      either false c k f g = let l = g k in omega (arith, l)

-- no substitution makes a variable a compound term in which it occurs
never_inside : (a : ℕ → Tree) (x f : ℕ) (ts : Trees) → occurs x (Compound f ts) ≡ true → a x ≡ instance a (Compound f ts) → ⊥
never_inside a x f ts h e =
    let smaller = occurs_all_nodes a x ts h in
    let same : nodes_of (a x) ≡ 1 + all_nodes (all_instances a ts) = ap nodes_of e in
    omega (arith, smaller, same)

-- as many arguments
arity_instances : (a : ℕ → Tree) (ts : Trees) → arity (all_instances a ts) ≡ arity ts
arity_instances a End = refl
arity_instances a (More t ts) = ap suc (arity_instances a ts)

-- arguments that become the same do so in pairs
pairs_solved : (a : ℕ → Tree) (ts us : Trees) → all_instances a ts ≡ all_instances a us → Solves a (pairs ts us)
pairs_solved a End us h = tt
pairs_solved a (More t ts) End h = tt
pairs_solved a (More t ts) (More u us) h =
    let first : instance a t ≡ instance a u = cc in
    let others : all_instances a ts ≡ all_instances a us = cc in
    (first, pairs_solved a ts us others)

-- a step that fails has no solution
failed_unsolved : (a : ℕ → Tree) (t u : Tree) → first_step t u ≡ Failed → instance a t ≡ instance a u → ⊥
failed_unsolved a (Variable y) (Variable z) e h = go (y == z) e
  where
    go : (b : Bool) → (if b then Dropped else Bound y (Variable z)) ≡ Failed → ⊥
    go true k = cc
    go false k = cc
failed_unsolved a (Variable y) (Integer n) e h = cc
failed_unsolved a (Variable y) (Compound f ts) e h = go (occurs y (Compound f ts)) refl e
  where
    go : (b : Bool) → occurs y (Compound f ts) ≡ b → (if b then Failed else Bound y (Compound f ts)) ≡ Failed → ⊥
    go true o k = never_inside a y f ts o h
    go false o k = cc
failed_unsolved a (Integer m) (Variable z) e h = cc
failed_unsolved a (Integer m) (Integer n) e h = go (int_eq m n) refl e
  where
    go : (b : Bool) → int_eq m n ≡ b → (if b then Dropped else Failed) ≡ Failed → ⊥
    go true o k = cc
    go false o k =
        let same : m ≡ n = cc in
        true≢false (sym ((Decides-int_eq m n).1 same) ∙ o)
failed_unsolved a (Integer m) (Compound f ts) e h = cc
failed_unsolved a (Compound f ts) (Variable z) e h = go (occurs z (Compound f ts)) refl e
  where
    go : (b : Bool) → occurs z (Compound f ts) ≡ b → (if b then Failed else Bound z (Compound f ts)) ≡ Failed → ⊥
    go true o k = never_inside a z f ts o (sym h)
    go false o k = cc
failed_unsolved a (Compound f ts) (Integer n) e h = cc
failed_unsolved a (Compound f ts) (Compound g us) e h = go ((f == g) && (arity ts == arity us)) refl e
  where
    test : f ≡ g → arity ts ≡ arity us → ((f == g) && (arity ts == arity us)) ≡ true
    test p q = grind (arith, nat_tests)

    go : (b : Bool) → ((f == g) && (arity ts == arity us)) ≡ b → (if b then Split (pairs ts us) else Failed) ≡ Failed → ⊥
    go true o k = cc
    go false o k =
        let name : f ≡ g = cc in
        let args : all_instances a ts ≡ all_instances a us = cc in
        let count : arity ts ≡ arity us = sym (arity_instances a ts) ∙ ap arity args ∙ arity_instances a us in
        true≢false (sym (test name count) ∙ o)

-- a solution solves the equations that come in the place of one
split_solved : (a : ℕ → Tree) (t u : Tree) (qs : List Equation) → first_step t u ≡ Split qs → instance a t ≡ instance a u → Solves a qs
split_solved a (Variable y) (Variable z) qs e h = go (y == z) e
  where
    go : {A : Type 0} (b : Bool) → (if b then Dropped else Bound y (Variable z)) ≡ Split qs → A
    go true k = cc
    go false k = cc
split_solved a (Variable y) (Integer n) qs e h = cc
split_solved a (Variable y) (Compound f ts) qs e h = go (occurs y (Compound f ts)) e
  where
    go : {A : Type 0} (b : Bool) → (if b then Failed else Bound y (Compound f ts)) ≡ Split qs → A
    go true k = cc
    go false k = cc
split_solved a (Integer m) (Variable z) qs e h = cc
split_solved a (Integer m) (Integer n) qs e h = go (int_eq m n) e
  where
    go : {A : Type 0} (b : Bool) → (if b then Dropped else Failed) ≡ Split qs → A
    go true k = cc
    go false k = cc
split_solved a (Integer m) (Compound f ts) qs e h = cc
split_solved a (Compound f ts) (Variable z) qs e h = go (occurs z (Compound f ts)) e
  where
    go : {A : Type 0} (b : Bool) → (if b then Failed else Bound z (Compound f ts)) ≡ Split qs → A
    go true k = cc
    go false k = cc
split_solved a (Compound f ts) (Integer n) qs e h = cc
split_solved a (Compound f ts) (Compound g us) qs e h = go ((f == g) && (arity ts == arity us)) e
  where
    go : (b : Bool) → (if b then Split (pairs ts us) else Failed) ≡ Split qs → Solves a qs
    go true k =
        let these : pairs ts us ≡ qs = cc in
        let args : all_instances a ts ≡ all_instances a us = cc in
        subst (Solves a) these (pairs_solved a ts us args)
    go false k = cc

-- a solution gives a bound variable and its term the same
bound_now : (a : ℕ → Tree) (y x : ℕ) (w v : Tree) → Bound y w ≡ Bound x v → a y ≡ instance a w → a x ≡ instance a v
bound_now a y x w v e h =
    let p : y ≡ x = cc in
    let q : w ≡ v = cc in
    subst (λ (b : Binding). a b.0 ≡ instance a b.1) (λ i. (p i, q i)) h

bound_solved : (a : ℕ → Tree) (t u : Tree) (x : ℕ) (v : Tree) → first_step t u ≡ Bound x v → instance a t ≡ instance a u → a x ≡ instance a v
bound_solved a (Variable y) (Variable z) x v e h = go (y == z) e
  where
    go : (b : Bool) → (if b then Dropped else Bound y (Variable z)) ≡ Bound x v → a x ≡ instance a v
    go true k = cc
    go false k = bound_now a y x (Variable z) v k h
bound_solved a (Variable y) (Integer n) x v e h = bound_now a y x (Integer n) v e h
bound_solved a (Variable y) (Compound f ts) x v e h = go (occurs y (Compound f ts)) e
  where
    go : (b : Bool) → (if b then Failed else Bound y (Compound f ts)) ≡ Bound x v → a x ≡ instance a v
    go true k = cc
    go false k = bound_now a y x (Compound f ts) v k h
bound_solved a (Integer m) (Variable z) x v e h = bound_now a z x (Integer m) v e (sym h)
bound_solved a (Integer m) (Integer n) x v e h = go (int_eq m n) e
  where
    go : {A : Type 0} (b : Bool) → (if b then Dropped else Failed) ≡ Bound x v → A
    go true k = cc
    go false k = cc
bound_solved a (Integer m) (Compound f ts) x v e h = cc
bound_solved a (Compound f ts) (Variable z) x v e h = go (occurs z (Compound f ts)) e
  where
    go : (b : Bool) → (if b then Failed else Bound z (Compound f ts)) ≡ Bound x v → a x ≡ instance a v
    go true k = cc
    go false k = bound_now a z x (Compound f ts) v k (sym h)
bound_solved a (Compound f ts) (Integer n) x v e h = cc
bound_solved a (Compound f ts) (Compound g us) x v e h = go ((f == g) && (arity ts == arity us)) e
  where
    go : {A : Type 0} (b : Bool) → (if b then Split (pairs ts us) else Failed) ≡ Bound x v → A
    go true k = cc
    go false k = cc

-- ---- solutions after a binding

only_at : (a : ℕ → Tree) (x : ℕ) (v : Tree) → a x ≡ instance a v → (y : ℕ) → instance a (only x v y) ≡ a y
only_at a x v h y = go (x == y) refl
  where
    go : (b : Bool) → (x == y) ≡ b → instance a (if b then v else Variable y) ≡ a y
    go true e = sym h ∙ ap a (eqb-true x y e)
    go false e = refl

-- a solution of the binding goes through it
only_under : (a : ℕ → Tree) (x : ℕ) (v : Tree) → a x ≡ instance a v → (t : Tree) → instance a (instance (only x v) t) ≡ instance a t
only_under a x v h t = instance_twice a (only x v) t ∙ (λ i. instance (λ y. only_at a x v h y i) t)

replaced_solved : (a : ℕ → Tree) (x : ℕ) (v : Tree) → a x ≡ instance a v → (es : List Equation) → Solves a es → Solves a (replaced x v es)
replaced_solved a x v h [] s = tt
replaced_solved a x v h (e ∷ es) s = (only_under a x v h e.0 ∙ s.0 ∙ sym (only_under a x v h e.1), replaced_solved a x v h es s.1)

solves_both : (a : ℕ → Tree) (es fs : List Equation) → Solves a es → Solves a fs → Solves a (es ++ fs)
solves_both a [] fs s r = r
solves_both a (e ∷ es) fs s r = (s.0, solves_both a es fs s.1 r)

-- ---- the unifier that a solution gives

-- bindings that unify the equations, and through which this substitution goes
pub record Found (a : ℕ → Tree) (es : List Equation) : Type 0 where
  pub bs : List Binding
  pub unifies : Unifies es bs
  pub under : (t : Tree) → instance a (applied bs t) ≡ instance a t

module _ (a : ℕ → Tree) (m v : ℕ) (deeper : (es : List Equation) → AllBelow m es → occurring m es < v → Solves a es → Found a es) where
  after_step : (n : ℕ) → ((es : List Equation) → AllBelow m es → occurring m es ≤ v → work es ≤ n → Solves a es → Found a es)
      → (t u : Tree) (es : List Equation) → AllBelow m ((t, u) ∷ es) → occurring m ((t, u) ∷ es) ≤ v → work ((t, u) ∷ es) ≤ suc n → Solves a ((t, u) ∷ es)
      → (s : Step) → first_step t u ≡ s → Found a ((t, u) ∷ es)
  after_step n again t u es below few short solved Dropped e =
      let wider : (y : ℕ) → occurs_in y es ≡ true → occurs_in y ((t, u) ∷ es) ≡ true = λ y h. or_right (occurs y t || occurs y u) (occurs_in y es) h in
      let fewer = occurring_le m es ((t, u) ∷ es) wider in
      let f = again es (λ y h. below y (wider y h)) (omega (arith, few, fewer)) (omega (arith, short, nodes_positive t)) solved.1 in
      record { bs = f.bs; unifies = drop e f.unifies; under = f.under }
  after_step n again t u es below few short solved (Bound x w) e =
      let b = binds t u x w e in
      let ties = bound_solved a t u x w e solved.0 in
      let wider = bind_inside t u x w es b in
      let there = or_left (occurs x t || occurs x u) (occurs_in x es) b.there in
      let fewer = occurring_lt m x (replaced x w es) ((t, u) ∷ es) wider (below x there) (bind_gone t u x w es b) there in
      let f = deeper (replaced x w es) (λ y h. below y (wider y h)) (omega (arith, few, fewer)) (replaced_solved a x w ties es solved.1) in
      record { bs = (x, w) ∷ f.bs; unifies = bind e f.unifies; under = λ s. f.under (instance (only x w) s) ∙ only_under a x w ties s }
  after_step n again t u es below few short solved (Split qs) e =
      let wider : (y : ℕ) → occurs_in y (qs ++ es) ≡ true → occurs_in y ((t, u) ∷ es) ≡ true = λ y h. replaced_inside t u qs es y e h in
      let fewer = occurring_le m (qs ++ es) ((t, u) ∷ es) wider in
      let both = solves_both a qs es (split_solved a t u qs e solved.0) solved.1 in
      let f = again (qs ++ es) (λ y h. below y (wider y h)) (omega (arith, few, fewer)) (omega (arith, short, work_split t u qs e, work-append qs es)) both in
      record { bs = f.bs; unifies = split e f.unifies; under = f.under }
  after_step n again t u es below few short solved Failed e = absurd (failed_unsolved a t u e solved.0)

  found_to : (n : ℕ) (es : List Equation) → AllBelow m es → occurring m es ≤ v → work es ≤ n → Solves a es → Found a es
  found_to n [] below few short solved = record { bs = []; unifies = none; under = λ t. refl }
  found_to zero (e ∷ es) below few short solved = absurd (omega (arith, short, nodes_positive e.0))
  found_to (suc n) (e ∷ es) below few short solved = after_step n (found_to n) e.0 e.1 es below few short solved (first_step e.0 e.1) refl

found_with : (a : ℕ → Tree) (m v : ℕ) (es : List Equation) → AllBelow m es → occurring m es ≤ v → Solves a es → Found a es
found_with a m zero es below few solved = found_to a m zero (λ fs b lt s. absurd (omega (arith, lt))) (work es) es below few (omega arith) solved
found_with a m (suc v) es below few solved = found_to a m (suc v) (λ fs b lt s. found_with a m v fs b (omega (arith, lt)) s) (work es) es below few (omega arith) solved

-- equations that a substitution solves have a unifier, through which it goes
pub found : (a : ℕ → Tree) (es : List Equation) → Solves a es → Found a es
found a es solved = found_with a (above_equations es) (occurring (above_equations es) es) es (λ y k. below_equations y es k) (omega arith) solved

-- ---- the laws

-- where some substitution solves the equations, unification finds a unifier
pub solved_found : (a : ℕ → Tree) (es : List Equation) → Solves a es → (bs : List Binding) × (unify es ≡ Some bs)
solved_found a es solved = let f = found a es solved in (f.bs, unify_complete es f.bs f.unifies)

-- and each unifier is most general
pub unifier_is_general : (es : List Equation) (bs : List Binding) → Unifies es bs → (a : ℕ → Tree) → Solves a es → (t : Tree) → instance a (applied bs t) ≡ instance a t
unifier_is_general es bs u a solved t =
    let f = found a es solved in
    let same : bs ≡ f.bs = one_unifier u f.unifies in
    ap (λ (cs : List Binding). instance a (applied cs t)) same ∙ f.under t

as_solution : (bs : List Binding) (es : List Equation) → AllByRecursion (λ (e : Equation). applied bs e.0 ≡ applied bs e.1) es → Solves (λ x. applied bs (Variable x)) es
as_solution bs [] h = tt
as_solution bs (e ∷ es) h = (sym (applied_instance bs e.0) ∙ h.0 ∙ applied_instance bs e.1, as_solution bs es h.1)

pub unify_general : (es : List Equation) (bs : List Binding) → unify es ≡ Some bs → IsMostGeneral es bs
unify_general es bs h =
    let u = unify_finds es bs h in
    record { solves = as_solution bs es (unifier_unifies u); general = unifier_is_general es bs u }
