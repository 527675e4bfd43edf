-- Laws of pairs that are remembered.
use Rattle.std.proofs.Common.{◌≡◌, ◌&&◌, if◌then◌else◌, ℕ, zero, suc, ◌+◌, ◌-◌, ◌<◌, ◌≤◌, inl, inr, List, [], ◌∷◌, ◌++◌, take, length, slice_get, Some, append-nil, length-append, refl, ap, sym, ◌∙◌, subst, arith}
use Rattle.std.proofs.lemmas.Bool.{cases_lt}
use Rattle.std.specs.List.{AllByRecursion}
use Rattle.cti_terms.specs.Tree.{Tree, Trees, Variable, Integer, Compound, End, More, instance, arity}
use Rattle.cti_terms.specs.Unify.{Equation, Binding, Dropped, Bound, Split, Failed, first_step, only, pairs, replaced}
use Rattle.cti_terms.specs.UnifyFunction.{unify, work}
use Rattle.cti_terms.specs.MostGeneral.{Solves}
use Rattle.cti_terms.proofs.Unifier.{instance_same, instance_twice, ties, same_split}
use Rattle.cti_terms.proofs.UnifyLaws.{nodes_positive}
use Rattle.unifier.specs.declared.equal_pairs.EqualPairs.{EqualPairs}
use Rattle.unifier.specs.declared.equal_pairs.OpenPair.{OpenPair}
use Rattle.unifier.specs.declared.raised_term.RaisedTerm.{RaisedTerm}
use Rattle.unifier.specs.Raised.{raised_tree}
use Rattle.unifier.specs.Store.{full}
use Rattle.unifier.specs.Remembered.{Entails, above, AreEqual, IsEntailed, AreRemembered}
use Rattle.unifier.proofs.StoreLaws.{full_more, eqb_same}
use Rattle.unifier.proofs.PendingLaws.{step_same_integers, step_variables}
use Rattle.unifier.proofs.UnifySteps.{unify_step}

-- ---- lists

pub all_at : {X : Type 0} (P : X → Type 0) (xs : List X) (i : ℕ) (x : X) → AllByRecursion P xs → slice_get xs i ≡ Some x → P x
all_at P [] i x all h = cc
all_at P (y ∷ ys) zero x all h = let same : y ≡ x = cc in subst P same all.0
all_at P (y ∷ ys) (suc i) x all h = all_at P ys i x all.1 h

pub all_front : {X : Type 0} (P : X → Type 0) (xs ys : List X) → AllByRecursion P (xs ++ ys) → AllByRecursion P xs × AllByRecursion P ys
all_front P [] ys h = (tt, h)
all_front P (x ∷ xs) ys h = let r = all_front P xs ys h.1 in ((h.0, r.0), r.1)

pub all_both : {X : Type 0} (P : X → Type 0) (xs ys : List X) → AllByRecursion P xs → AllByRecursion P ys → AllByRecursion P (xs ++ ys)
all_both P [] ys h k = k
all_both P (x ∷ xs) ys h k = (h.0, all_both P xs ys h.1 k)

pub all_taken : {X : Type 0} (P : X → Type 0) (n : ℕ) (xs : List X) → AllByRecursion P xs → AllByRecursion P (take n xs)
all_taken P zero [] h = tt
all_taken P zero (x ∷ xs) h = tt
all_taken P (suc n) [] h = tt
all_taken P (suc n) (x ∷ xs) h = (h.0, all_taken P n xs h.1)

all_mapped : {X : Type 0} (P Q : X → Type 0) (xs : List X) → ((x : X) → P x → Q x) → AllByRecursion P xs → AllByRecursion Q xs
all_mapped P Q [] f h = tt
all_mapped P Q (x ∷ xs) f h = (f x h.0, all_mapped P Q xs f h.1)

take_past : (xs ys : List Equation) (n : ℕ) → take (length xs + n) (xs ++ ys) ≡ xs ++ take n ys
take_past [] ys n = ap (λ k. take k ys) (let e : 0 + n ≡ n = omega arith in e)
take_past (x ∷ xs) ys n =
    let e : length (x ∷ xs) + n ≡ suc (length xs + n) = omega arith in
    ap (λ k. take k (x ∷ (xs ++ ys))) e ∙ ap (λ l. x ∷ l) (take_past xs ys n)

take_nothing : (es : List Equation) → take 0 es ≡ []
take_nothing [] = refl
take_nothing (e ∷ es) = refl

take_replaced : (x : ℕ) (v : Tree) (n : ℕ) (es : List Equation) → take n (replaced x v es) ≡ replaced x v (take n es)
take_replaced x v zero [] = refl
take_replaced x v zero (e ∷ es) = refl
take_replaced x v (suc n) [] = refl
take_replaced x v (suc n) (e ∷ es) = ap (λ l. (instance (only x v) e.0, instance (only x v) e.1) ∷ l) (take_replaced x v n es)

length-replaced : (x : ℕ) (v : Tree) (es : List Equation) → length (replaced x v es) ≡ length es
length-replaced x v [] = refl
length-replaced x v (e ∷ es) = ap suc (length-replaced x v es)

-- ---- equations of equal terms

step_same : (f : ℕ) (ts : Trees) → first_step (Compound f ts) (Compound f ts) ≡ Split (pairs ts ts)
step_same f ts = λ i. if (eqb_same f i) && (eqb_same (arity ts) i) then Split (pairs ts ts) else Failed

mutual
  -- an equation of equal terms changes nothing
  pub unify_same : (t : Tree) (es : List Equation) → unify ((t, t) ∷ es) ≡ unify es
  unify_same (Variable x) es = unify_step (Variable x) (Variable x) es Dropped (sym (step_variables x x refl))
  unify_same (Integer n) es = unify_step (Integer n) (Integer n) es Dropped (sym (step_same_integers n n refl))
  unify_same (Compound f ts) es = unify_step (Compound f ts) (Compound f ts) es (Split (pairs ts ts)) (step_same f ts) ∙ unify_all_same ts es

  unify_all_same : (ts : Trees) (es : List Equation) → unify (pairs ts ts ++ es) ≡ unify es
  unify_all_same End es = refl
  unify_all_same (More t ts) es = unify_same t (pairs ts ts ++ es) ∙ unify_all_same ts es

pub unify_equal : (t u : Tree) (es : List Equation) → t ≡ u → unify ((t, u) ∷ es) ≡ unify es
unify_equal t u es h = ap (λ w. unify ((t, w) ∷ es)) (sym h) ∙ unify_same t es

pub less_work : (t u : Tree) (es : List Equation) → work es < work ((t, u) ∷ es)
less_work t u es = let k = nodes_positive t in omega (arith, k)

-- ---- equations above a number of others

none_above : (n : ℕ) (es : List Equation) → length es ≤ n → above n es ≡ []
none_above n es h = ap (λ k. take k es) (let c : length es - n ≡ 0 = omega (arith, h) in c) ∙ take_nothing es

above_more : (n : ℕ) (qs es : List Equation) → n ≤ length es → above n (qs ++ es) ≡ qs ++ above n es
above_more n qs es h =
    ap (λ k. take k (qs ++ es)) (let c : length (qs ++ es) - n ≡ length qs + (length es - n) = omega (arith, h, length-append qs es) in c)
    ∙ take_past qs es (length es - n)

above_replaced : (n x : ℕ) (v : Tree) (es : List Equation) → above n (replaced x v es) ≡ replaced x v (above n es)
above_replaced n x v es =
    ap (λ k. take (k - n) (replaced x v es)) (length-replaced x v es)
    ∙ take_replaced x v (length es - n) es

-- ---- what equations entail

by_nothing : (n : ℕ) (es : List Equation) (t u : Tree) → length es ≤ n → Entails (above n es) t u → (a : ℕ → Tree) → instance a t ≡ instance a u
by_nothing n es t u h e a = e a (subst (Solves a) (sym (none_above n es h)) tt)

-- an equation of equal terms entails nothing
still_entailed : (n : ℕ) (t u : Tree) (es : List Equation) (l r : Tree) → t ≡ u → Entails (above n ((t, u) ∷ es)) l r → Entails (above n es) l r
still_entailed n t u es l r same e a k = elim (cases_lt (length es) n) [
  | inl h ↦ by_nothing n ((t, u) ∷ es) l r (omega (arith, h)) e a
  | inr h ↦ e a (subst (Solves a) (sym (above_more n ((t, u) ∷ []) es h)) (ap (instance a) same, k))
]

-- the equations of arguments entail what the equation of the terms does
split_entails : (n : ℕ) (t u : Tree) (qs es : List Equation) (l r : Tree) → first_step t u ≡ Split qs → Entails (above n ((t, u) ∷ es)) l r → Entails (above n (qs ++ es)) l r
split_entails n t u qs es l r step e a k = elim (cases_lt (length es) n) [
  | inl h ↦ by_nothing n ((t, u) ∷ es) l r (omega (arith, h)) e a
  | inr h ↦
      let both = all_front (λ (q : Equation). instance a q.0 ≡ instance a q.1) qs (above n es) (subst (Solves a) (above_more n qs es h) k) in
      e a (subst (Solves a) (sym (above_more n ((t, u) ∷ []) es h)) (same_split a t u qs step both.0, both.1))
]

solves_replaced : (a : ℕ → Tree) (x : ℕ) (v : Tree) (es : List Equation) → Solves a (replaced x v es) → Solves (λ y. instance a (only x v y)) es
solves_replaced a x v [] k = tt
solves_replaced a x v (e ∷ es) k = (
  sym (instance_twice a (only x v) e.0) ∙ k.0 ∙ instance_twice a (only x v) e.1,
  solves_replaced a x v es k.1,
)

-- what an equation and others entail, the others entail once it has bound its variable
bound_entails : (n : ℕ) (t u : Tree) (x : ℕ) (v : Tree) (es : List Equation) (l r : Tree) → first_step t u ≡ Bound x v → Entails (above n ((t, u) ∷ es)) l r → Entails (above n (replaced x v es)) (instance (only x v) l) (instance (only x v) r)
bound_entails n t u x v es l r step e a k = instance_twice a (only x v) l ∙ here ∙ sym (instance_twice a (only x v) r)
  where
    first : instance (λ y. instance a (only x v y)) t ≡ instance (λ y. instance a (only x v y)) u
    first = sym (instance_twice a (only x v) t) ∙ ap (instance a) (ties t u x v step) ∙ instance_twice a (only x v) u

    here : instance (λ y. instance a (only x v y)) l ≡ instance (λ y. instance a (only x v y)) r
    here = elim (cases_lt (length es) n) [
      | inl h ↦ by_nothing n ((t, u) ∷ es) l r (omega (arith, h)) e (λ y. instance a (only x v y))
      | inr h ↦
          let rest = solves_replaced a x v (above n es) (subst (Solves a) (above_replaced n x v es) k) in
          e (λ y. instance a (only x v y)) (subst (Solves (λ y. instance a (only x v y))) (sym (above_more n ((t, u) ∷ []) es h)) (first, rest))
    ]

-- ---- the pairs that are remembered

pub remembered_dropped : (s : List Binding) (t u : Tree) (es : List Equation) (x : EqualPairs) → t ≡ u → AreRemembered s ((t, u) ∷ es) x → AreRemembered s es x
remembered_dropped s t u es x same m = record {
  equal = m.equal;
  under_way = all_mapped (IsEntailed s ((t, u) ∷ es)) (IsEntailed s es) x.under_way.items
      (λ o. still_entailed o.below t u es (full s (raised_tree o.left)) (full s (raised_tree o.right)) same)
      m.under_way;
}

pub remembered_split : (s : List Binding) (t u : Tree) (qs es : List Equation) (x : EqualPairs) → first_step t u ≡ Split qs → AreRemembered s ((t, u) ∷ es) x → AreRemembered s (qs ++ es) x
remembered_split s t u qs es x step m = record {
  equal = m.equal;
  under_way = all_mapped (IsEntailed s ((t, u) ∷ es)) (IsEntailed s (qs ++ es)) x.under_way.items
      (λ o. split_entails o.below t u qs es (full s (raised_tree o.left)) (full s (raised_tree o.right)) step)
      m.under_way;
}

pub remembered_bound : (s : List Binding) (t u : Tree) (y : ℕ) (w : Tree) (es : List Equation) (x : EqualPairs) → first_step t u ≡ Bound y (full s w) → AreRemembered s ((t, u) ∷ es) x → AreRemembered ((y, w) ∷ s) (replaced y (full s w) es) x
remembered_bound s t u y w es x step m = record {
  equal = all_mapped (λ (p : RaisedTerm × RaisedTerm). AreEqual s p.0 p.1) (λ (p : RaisedTerm × RaisedTerm). AreEqual ((y, w) ∷ s) p.0 p.1) x.equal.items
      (λ p h. full_more s (y, w) (raised_tree p.0) ∙ ap (instance (only y (full s w))) h ∙ sym (full_more s (y, w) (raised_tree p.1)))
      m.equal;
  under_way = all_mapped (IsEntailed s ((t, u) ∷ es)) (IsEntailed ((y, w) ∷ s) (replaced y (full s w) es)) x.under_way.items
      (λ o e a k.
      ap (instance a) (full_more s (y, w) (raised_tree o.left))
      ∙ bound_entails o.below t u y (full s w) es (full s (raised_tree o.left)) (full s (raised_tree o.right)) step e a k
      ∙ sym (ap (instance a) (full_more s (y, w) (raised_tree o.right))))
      m.under_way;
}

-- the equations of two terms' arguments entail that they are equal
pub opened : (s : List Binding) (l r : RaisedTerm) (t u : Tree) (qs es : List Equation) (n : ℕ) → n ≡ length es → first_step t u ≡ Split qs → t ≡ full s (raised_tree l) → u ≡ full s (raised_tree r) → Entails (above n (qs ++ es)) (full s (raised_tree l)) (full s (raised_tree r))
opened s l r t u qs es n count step p q a k = ap (instance a) (sym p) ∙ same_split a t u qs step (subst (Solves a) there k) ∙ ap (instance a) q
  where
    there : above n (qs ++ es) ≡ qs
    there =
        above_more n qs es (omega (arith, count))
        ∙ ap (λ (l : List Equation). qs ++ l) (none_above n es (omega (arith, count)))
        ∙ append-nil qs

-- the equations above are solved, so the pair is one of equal terms
pub settled : (s : List Binding) (es : List Equation) (x y : EqualPairs) (rest : List OpenPair) (o : OpenPair) (n : ℕ) → x.under_way.items ≡ rest ++ o ∷ [] → y.under_way.items ≡ rest → y.equal.items ≡ x.equal.items ++ (o.left, o.right) ∷ [] → n < o.below → length es ≤ n + 1 → AreRemembered s es x → AreRemembered s es y
settled s es x y rest o n was now more past few m = record {
  equal = subst (AllByRecursion (λ (p : RaisedTerm × RaisedTerm). AreEqual s p.0 p.1)) (sym more)
      (all_both (λ (p : RaisedTerm × RaisedTerm). AreEqual s p.0 p.1) x.equal.items ((o.left, o.right) ∷ []) m.equal (same, tt));
  under_way = subst (AllByRecursion (IsEntailed s es)) (sym now) both.0;
}
  where
    both : AllByRecursion (IsEntailed s es) rest × AllByRecursion (IsEntailed s es) (o ∷ [])
    both = all_front (IsEntailed s es) rest (o ∷ []) (subst (AllByRecursion (IsEntailed s es)) was m.under_way)

    same : AreEqual s o.left o.right
    same =
        let l = full s (raised_tree o.left) in
        let r = full s (raised_tree o.right) in
        sym (instance_same l) ∙ by_nothing o.below es l r (omega (arith, past, few)) both.1.0 Variable ∙ instance_same r

-- the same pairs
pub remembered_same : (s : List Binding) (es : List Equation) (x y : EqualPairs) → y.under_way.items ≡ x.under_way.items → y.equal.items ≡ x.equal.items → AreRemembered s es x → AreRemembered s es y
remembered_same s es x y p q m = record {
  equal = subst (AllByRecursion (λ (p : RaisedTerm × RaisedTerm). AreEqual s p.0 p.1)) (sym q) m.equal;
  under_way = subst (AllByRecursion (IsEntailed s es)) (sym p) m.under_way;
}

-- one more pair under way
pub remembered_more : (s : List Binding) (es : List Equation) (x y : EqualPairs) (o : OpenPair) → y.under_way.items ≡ x.under_way.items ++ o ∷ [] → y.equal.items ≡ x.equal.items → IsEntailed s es o → AreRemembered s es x → AreRemembered s es y
remembered_more s es x y o p q e m = record {
  equal = subst (AllByRecursion (λ (p : RaisedTerm × RaisedTerm). AreEqual s p.0 p.1)) (sym q) m.equal;
  under_way = subst (AllByRecursion (IsEntailed s es)) (sym p) (all_both (IsEntailed s es) x.under_way.items (o ∷ []) m.under_way (e, tt));
}
