-- Laws of variables below a counter.
use Rattle.std.proofs.Common.{◌≡◌, ℕ, ◌+◌, ◌<◌, ◌≤◌, Bool, true, false, ◌||◌, ◌&&◌, ◌==◌, if◌then◌else◌, nat_lt, IsTrue, List, [], ◌∷◌, ◌++◌, map, inl, inr, refl, sym, ◌∙◌, subst, arith, eqb-true, add-zero}
use Rattle.std.proofs.lemmas.Bool.Decides.{nat_tests}
use Rattle.std.specs.List.{AllByRecursion}
use Rattle.std.specs.Ordering.{int_eq}
use Rattle.std.proofs.lemmas.Bool.{or_cases, or_left, or_right, and_parts}
use Rattle.cti_terms.specs.Tree.{Tree, Trees, arity, Variable, Integer, Compound, End, More, trees, instance, all_instances, all_truths, is_below}
use Rattle.cti_terms.specs.Unify.{Equation, Binding, Dropped, Bound, Split, Failed, occurs, occurs_among, only, first_step, replaced, Unifies, none, drop, bind, split, pairs, applied}
use Rattle.cti_terms.specs.UnifyFunction.{occurs_in}
use Rattle.cti_terms.specs.declared.atom_list.Atom.{Atom}
use Rattle.cti_terms.specs.Resolve.{over}
use Rattle.cti_terms.specs.Below.{TermBelow, ArgumentsBelow, AtomsBelow}
use Rattle.cti_terms.proofs.UnifyLaws.{comes, binds, bind_inside, replaced_inside, AllBelow}
use Rattle.cti_terms.proofs.Unifier.{absent, instance_same, instance_twice, applied_instance}
use Rattle.unifier.specs.Below.{FreeFrom, LeftBelow}
use Rattle.unifier.specs.Raised.{raise}
use Rattle.unifier.specs.Store.{made, full}
use Rattle.unifier.proofs.StoreLaws.{full_free}

mutual
  -- a term of variables below k, raised by n
  pub raised_below : (n k : ℕ) (t : Tree) → is_below k t ≡ true → TermBelow (n + k) (instance (raise n) t)
  raised_below n k (Variable x) h y o =
      let same : y ≡ x + n = eqb-true y (x + n) o in
      let less : x < k = grind (arith, nat_tests) in
      omega (arith, same, less)
  raised_below n k (Integer i) h y o = cc
  raised_below n k (Compound f ts) h y o = all_raised_below n k ts h y o

  all_raised_below : (n k : ℕ) (ts : Trees) → all_truths (λ x. nat_lt x k) ts ≡ true → (y : ℕ) → occurs_among y (all_instances (raise n) ts) ≡ true → y < n + k
  all_raised_below n k End h y o = cc
  all_raised_below n k (More t ts) h y o =
      elim (or_cases (occurs y (instance (raise n) t)) (occurs_among y (all_instances (raise n) ts)) o) [
        | inl l ↦ raised_below n k t (and_parts (is_below k t) (all_truths (λ x. nat_lt x k) ts) h).0 y l
        | inr r ↦ all_raised_below n k ts (and_parts (is_below k t) (all_truths (λ x. nat_lt x k) ts) h).1 y r
      ]

-- a term under a unifier of equations below m
pub applied_below : {es : List Equation} {bs : List Binding} → Unifies es bs → (m : ℕ) → AllBelow m es → (t : Tree) → TermBelow m t → TermBelow m (applied bs t)
applied_below none m below t h = h
applied_below (drop {t = l} {u = r} {es = es} e u) m below t h = applied_below u m (λ y k. below y (or_right (occurs y l || occurs y r) (occurs_in y es) k)) t h
applied_below (bind {t = l} {u = r} {v = v} {x = x} {es = es} e u) m below t h =
    let b = binds l r x v e in
    applied_below u m (λ y k. below y (bind_inside l r x v es b y k)) (instance (only x v) t) (λ y o.
    elim (comes y x v t o) [
      | inl k ↦ below y (or_left (occurs y l || occurs y r) (occurs_in y es) (b.inside y k))
      | inr k ↦ h y k.0
    ])
applied_below (split {t = l} {u = r} {qs = qs} {es = es} e u) m below t h = applied_below u m (λ y k. below y (replaced_inside l r qs es y e k)) t h

-- a greater counter
pub wider : (m n : ℕ) (ts : List Tree) → m ≤ n → ArgumentsBelow m ts → ArgumentsBelow n ts
wider m n [] l h = h
wider m n (t ∷ ts) l h = ((λ y o. let k = h.0 y o in omega (arith, l, k)), wider m n ts l h.1)

-- equations of arguments below n
pub pairs_below : (n : ℕ) (ts us : List Tree) → ArgumentsBelow n ts → ArgumentsBelow n us → AllBelow n (pairs (trees ts) (trees us))
pairs_below n [] us h k y o = cc
pairs_below n (t ∷ ts) [] h k y o = cc
pairs_below n (t ∷ ts) (u ∷ us) h k y o =
    elim (or_cases (occurs y t || occurs y u) (occurs_in y (pairs (trees ts) (trees us))) o) [
      | inl l ↦ elim (or_cases (occurs y t) (occurs y u) l) [ inl a ↦ h.0 y a | inr b ↦ k.0 y b ]
      | inr r ↦ pairs_below n ts us h.1 k.1 y r
    ]

-- atoms of a clause, raised
pub arguments_raised : (n k : ℕ) (ts : List Tree) → AllByRecursion (λ t. IsTrue (is_below k t)) ts → ArgumentsBelow (n + k) (map (instance (raise n)) ts)
arguments_raised n k [] h = tt
arguments_raised n k (t ∷ ts) h = (raised_below n k t h.0, arguments_raised n k ts h.1)

-- atoms under a function that keeps terms below n
pub arguments_over : (n : ℕ) (f : Tree → Tree) (ts : List Tree) → ((t : Tree) → TermBelow n t → TermBelow n (f t)) → ArgumentsBelow n ts → ArgumentsBelow n (map f ts)
arguments_over n f [] k h = tt
arguments_over n f (t ∷ ts) k h = (k t h.0, arguments_over n f ts k h.1)

pub atoms_over : (n : ℕ) (f : Tree → Tree) (xs : List Atom) → ((t : Tree) → TermBelow n t → TermBelow n (f t)) → AtomsBelow n xs → AtomsBelow n (map (over f) xs)
atoms_over n f [] k h = tt
atoms_over n f (a ∷ xs) k h = (arguments_over n f a.args k h.0, atoms_over n f xs k h.1)

-- terms from a counter on stay under the bindings
pub full_raised : (s : List Binding) (n : ℕ) (t : Tree) → FreeFrom n s → full s (instance (raise n) t) ≡ instance (raise n) t
full_raised s n t free =
    applied_instance (made s) (instance (raise n) t)
    ∙ instance_twice (λ x. full s (Variable x)) (raise n) t
    ∙ (λ i. instance (λ x. full_free s (x + n) (free (x + n) (omega arith)) i) t)

-- raised by nothing
pub raised_zero : (t : Tree) → instance (raise 0) t ≡ t
raised_zero t = (λ i. instance (λ x. Variable (add-zero x i)) t) ∙ instance_same t

-- a variable that does not occur
pub not_below : (n : ℕ) (es : List Equation) → AllBelow n es → (y : ℕ) → n ≤ y → occurs_in y es ≡ false
not_below n es below y l = go (occurs_in y es) refl
  where
    go : (b : Bool) → occurs_in y es ≡ b → b ≡ false
    go true e = let k = below y e in absurd (omega (arith, k, l))
    go false e = refl

-- ---- left sides below a counter

-- a variable from the counter on does not occur
pub apart : (n y : ℕ) (t : Tree) → TermBelow n t → n ≤ y → occurs y t ≡ false
apart n y t h l = go (occurs y t) refl
  where
    go : (b : Bool) → occurs y t ≡ b → b ≡ false
    go true e = let k = h y e in absurd (omega (arith, k, l))
    go false e = refl

pub left_pairs : (n : ℕ) (ts us : Trees) → ((y : ℕ) → occurs_among y ts ≡ true → y < n) → LeftBelow n (pairs ts us)
left_pairs n End us h = tt
left_pairs n (More t ts) End h = tt
left_pairs n (More t ts) (More u us) h = ((λ y o. h y (or_left (occurs y t) (occurs_among y ts) o)), left_pairs n ts us (λ y o. h y (or_right (occurs y t) (occurs_among y ts) o)))

pub left_append : (n : ℕ) (es fs : List Equation) → LeftBelow n es → LeftBelow n fs → LeftBelow n (es ++ fs)
left_append n [] fs h k = k
left_append n (e ∷ es) fs h k = (h.0, left_append n es fs h.1 k)

-- a binding of a variable from the counter on leaves left sides
pub left_replaced : (n x : ℕ) (v : Tree) (es : List Equation) → n ≤ x → LeftBelow n es → LeftBelow n (replaced x v es)
left_replaced n x v [] l h = tt
left_replaced n x v (e ∷ es) l h = (subst (TermBelow n) (sym (absent x v e.0 (apart n x e.0 h.0 l))) h.0, left_replaced n x v es l h.1)

-- the arguments of an atom on the left
pub left_arguments : (n : ℕ) (ts us : List Tree) → ArgumentsBelow n ts → LeftBelow n (pairs (trees ts) (trees us))
left_arguments n [] us h = tt
left_arguments n (t ∷ ts) [] h = tt
left_arguments n (t ∷ ts) (u ∷ us) h = (h.0, left_arguments n ts us h.1)

-- what a step puts in the place of an equation whose left side is below n
pub left_split : (n : ℕ) (t u : Tree) (qs : List Equation) → first_step t u ≡ Split qs → TermBelow n t → LeftBelow n qs
left_split n (Variable y) (Variable z) qs e h = go (y == z) e
  where
    go : {A : Type 0} (b : Bool) → (if b then Dropped else Bound y (Variable z)) ≡ Split qs → A
    go true e = cc
    go false e = cc
left_split n (Variable y) (Integer i) qs e h = cc
left_split n (Variable y) (Compound f ts) qs e h = go (occurs y (Compound f ts)) e
  where
    go : {A : Type 0} (b : Bool) → (if b then Failed else Bound y (Compound f ts)) ≡ Split qs → A
    go true e = cc
    go false e = cc
left_split n (Integer m) (Variable z) qs e h = cc
left_split n (Integer m) (Integer i) qs e h = go (int_eq m i) e
  where
    go : {A : Type 0} (b : Bool) → (if b then Dropped else Failed) ≡ Split qs → A
    go true e = cc
    go false e = cc
left_split n (Integer m) (Compound f ts) qs e h = cc
left_split n (Compound f ts) (Variable z) qs e h = go (occurs z (Compound f ts)) e
  where
    go : {A : Type 0} (b : Bool) → (if b then Failed else Bound z (Compound f ts)) ≡ Split qs → A
    go true e = cc
    go false e = cc
left_split n (Compound f ts) (Integer i) qs e h = cc
left_split n (Compound f ts) (Compound g us) qs e h = go ((f == g) && (arity ts == arity us)) e
  where
    go : (b : Bool) → (if b then Split (pairs ts us) else Failed) ≡ Split qs → LeftBelow n qs
    go true e =
        let these : pairs ts us ≡ qs = cc in
        subst (LeftBelow n) these (left_pairs n ts us h)
    go false e = cc

-- a greater limit
pub left_wider : (m n : ℕ) (es : List Equation) → m ≤ n → LeftBelow m es → LeftBelow n es
left_wider m n [] l h = tt
left_wider m n (e ∷ es) l h = ((λ y o. let k = h.0 y o in omega (arith, l, k)), left_wider m n es l h.1)

-- a term of variables below the limit comes for a variable
pub left_bound : (n x : ℕ) (v : Tree) (es : List Equation) → TermBelow n v → LeftBelow n es → LeftBelow n (replaced x v es)
left_bound n x v [] b h = tt
left_bound n x v (e ∷ es) b h = ((λ y o. elim (comes y x v e.0 o) [ inl k ↦ b y k | inr k ↦ h.0 y k.0 ]), left_bound n x v es b h.1)
