-- Laws of the occurs check, which leaves out what it has visited.
use Rattle.std.proofs.Common.{◌≡◌, ◌⊎◌, inl, inr, ℕ, zero, suc, ◌+◌, ◌*◌, ◌<◌, ◌≤◌, Bool, true, false, ◌||◌, ◌==◌, if◌then◌else◌, List, [], ◌∷◌, ◌++◌, map, length, refl, ap, sym, ◌∙◌, subst, arith, eqb-true}
use Rattle.std.specs.List.{AllByRecursion}
use Rattle.std.proofs.lemmas.Nat.{mul-le}
use Rattle.std.proofs.lemmas.Bool.{or_cases, or_left}
use Rattle.cti_terms.specs.Tree.{Tree, Variable, Integer, Compound, trees, instance, all_instances, nodes_of, all_nodes}
use Rattle.cti_terms.specs.declared.syntax.Term.{Term}
use Rattle.cti_terms.specs.Spell.{tree_of, trees_of}
use Rattle.cti_terms.specs.Unify.{Binding, occurs, occurs_among}
use Rattle.cti_terms.proofs.Unifier.{applied_instance}
use Rattle.unifier.specs.Raised.{raise}
use Rattle.unifier.specs.Store.{made, full, all_full, one_more, chain, chain_of}
use Rattle.unifier.specs.Pending.{occurs_left}
use Rattle.unifier.specs.Visits.{is_among, rank, OccursBelow, IsCovered, IsWanted}
use Rattle.unifier.proofs.PendingLaws.{or_second_true, occurs_left-append}
use Rattle.unifier.proofs.VisitLaws.{off}

-- ---- numbers that fall

rank_less : (a b c d k : ℕ) → a < b → c ≤ k → a * suc k + c < b * suc k + d
rank_less a b c d k h le =
    let m = mul-le (suc a) (suc k) b (suc k) (omega (arith, h)) (omega arith) in
    let e : suc a * suc k ≡ a * suc k + suc k = omega arith in
    omega (arith, m, e, le)

chain_le : (s : List Binding) (x : ℕ) → chain s x ≤ length s
chain_le [] x = omega arith
chain_le (b ∷ s) x = go (b.0 == x) (chain_le s x)
  where
    one : (n m : ℕ) → n ≤ m → one_more n ≤ suc m
    one zero m h = omega arith
    one (suc n) m h = omega (arith, h)

    go : (c : Bool) → chain s x ≤ length s → (if c then 1 else one_more (chain s x)) ≤ suc (length s)
    go true older = omega arith
    go false older = one (chain s x) (length s) older

chain_of_le : (s : List Binding) (t : Tree) → chain_of s t ≤ length s
chain_of_le s (Variable x) = chain_le s x
chain_of_le s (Integer n) = omega arith
chain_of_le s (Compound f ts) = omega arith

pub left_bound : (s : List Binding) (x : ℕ) (ts : List Tree) (y : ℕ) (t : Tree) → full s t ≡ full s (Variable y) → occurs_left s x (ts ++ t ∷ []) ≡ occurs_left s x (ts ++ Variable y ∷ [])
left_bound s x ts y t same =
    occurs_left-append s x ts (t ∷ [])
    ∙ ap (λ u. occurs_left s x ts || (occurs x u || false)) same
    ∙ sym (occurs_left-append s x ts (Variable y ∷ []))

-- ---- terms below a number

module _ (s : List Binding) (x : ℕ) where
  pub below_left : (n : ℕ) (ts us : List Tree) → OccursBelow s x n ts → OccursBelow s x n (ts ++ us)
  below_left n [] us h = absurd h
  below_left n (t ∷ ts) us (inl h) = inl h
  below_left n (t ∷ ts) us (inr h) = inr (below_left n ts us h)

  pub below_right : (n : ℕ) (ts us : List Tree) → OccursBelow s x n us → OccursBelow s x n (ts ++ us)
  below_right n [] us h = h
  below_right n (t ∷ ts) us h = inr (below_right n ts us h)

  pub below_last : (n : ℕ) (ts : List Tree) (t : Tree) → OccursBelow s x n (ts ++ t ∷ []) → OccursBelow s x n ts ⊎ ((rank s t < n) × (occurs x (full s t) ≡ true))
  below_last n [] t (inl h) = inr h
  below_last n [] t (inr h) = absurd h
  below_last n (u ∷ ts) t (inl h) = inl (inl h)
  below_last n (u ∷ ts) t (inr h) = elim (below_last n ts t h) [ inl k ↦ inl (inr k) | inr k ↦ inr k ]

  below_more : (n m : ℕ) (ts : List Tree) → n ≤ m → OccursBelow s x n ts → OccursBelow s x m ts
  below_more n m [] le h = absurd h
  below_more n m (t ∷ ts) le (inl h) = inl (omega (arith, le, h.0), h.1)
  below_more n m (t ∷ ts) le (inr h) = inr (below_more n m ts le h)

  below_occurs : (n : ℕ) (ts : List Tree) → OccursBelow s x n ts → occurs_left s x ts ≡ true
  below_occurs n [] h = absurd h
  below_occurs n (t ∷ ts) (inl h) = or_left (occurs x (full s t)) (occurs_left s x ts) h.1
  below_occurs n (t ∷ ts) (inr h) = or_second_true (occurs x (full s t)) (occurs_left s x ts) (below_occurs n ts h)

  -- arguments of a compound term are below it
  below_arguments : (n k d : ℕ) (ts : List Tree) → all_nodes (all_full s (all_instances (raise n) (trees ts))) < k → occurs_among x (all_full s (all_instances (raise n) (trees ts))) ≡ true → OccursBelow s x (k * suc (length s) + d) (map (instance (raise n)) ts)
  below_arguments n k d [] less h = absurd (off h)
  below_arguments n k d (t ∷ ts) less h =
      let u = instance (raise n) t in
      let e : full s u ≡ instance (λ y. full s (Variable y)) u = applied_instance (made s) u in
      let nodes = ap nodes_of e in
      elim (or_cases (occurs x (instance (λ y. full s (Variable y)) u)) (occurs_among x (all_full s (all_instances (raise n) (trees ts)))) h) [
        | inl a ↦ inl (rank_less (nodes_of (full s u)) k (chain_of s u) d (length s) (omega (arith, nodes, less)) (chain_of_le s u), ap (occurs x) e ∙ a)
        | inr b ↦ inr (below_arguments n k d ts (omega (arith, less)) b)
      ]

  -- ---- visited variables

  pub kept : (old new : List Tree) → ((n : ℕ) → OccursBelow s x n old → OccursBelow s x n new) → (ys : List ℕ) → AllByRecursion (IsCovered s x old) ys → AllByRecursion (IsCovered s x new) ys
  kept old new go [] h = tt
  kept old new go (y ∷ ys) h = (λ o. go (rank s (Variable y)) (h.0 o), kept old new go ys h.1)

  covered_more : (ts : List Tree) (ys : List ℕ) (y : ℕ) → AllByRecursion (IsCovered s x ts) ys → IsCovered s x ts y → AllByRecursion (IsCovered s x ts) (ys ++ y ∷ [])
  covered_more ts [] y h k = (k, tt)
  covered_more ts (z ∷ ys) y h k = (h.0, covered_more ts ys y h.1 k)

  pub covered_at : (ts : List Tree) (ys : List ℕ) (y : ℕ) → AllByRecursion (IsCovered s x ts) ys → is_among ys y ≡ true → IsCovered s x ts y
  covered_at ts [] y h m = absurd (off m)
  covered_at ts (z ∷ ys) y h m = elim (or_cases (z == y) (is_among ys y) m) [
    | inl e ↦ subst (IsCovered s x ts) (eqb-true z y e) h.0
    | inr k ↦ covered_at ts ys y h.1 k
  ]

  module _ (ts : List Tree) (ys : List ℕ) where
    -- a term in which x does not occur is left out
    pub covered_absent : (t : Tree) → occurs x (full s t) ≡ false → AllByRecursion (IsCovered s x (ts ++ t ∷ [])) ys → AllByRecursion (IsCovered s x ts) ys
    covered_absent t gone = kept (ts ++ t ∷ []) ts (λ n h. elim (below_last n ts t h) [ inl k ↦ k | inr k ↦ absurd (off (sym gone ∙ k.1)) ]) ys

    -- a visited variable is left out
    again_below : (y : ℕ) → IsCovered s x (ts ++ Variable y ∷ []) y → occurs x (full s (Variable y)) ≡ true → OccursBelow s x (rank s (Variable y)) ts
    again_below y c o = elim (below_last (rank s (Variable y)) ts (Variable y) (c o)) [ inl k ↦ k | inr k ↦ absurd (omega (arith, k.0)) ]

    pub covered_again : (y : ℕ) → is_among ys y ≡ true → AllByRecursion (IsCovered s x (ts ++ Variable y ∷ [])) ys → AllByRecursion (IsCovered s x ts) ys
    covered_again y m all =
        let c = covered_at (ts ++ Variable y ∷ []) ys y all m in
        kept (ts ++ Variable y ∷ []) ts (λ n h. elim (below_last n ts (Variable y) h) [
          | inl k ↦ k
          | inr k ↦ below_more (rank s (Variable y)) n ts (omega (arith, k.0)) (again_below y c k.1)
        ]) ys all

    pub left_again : (y : ℕ) → is_among ys y ≡ true → AllByRecursion (IsCovered s x (ts ++ Variable y ∷ [])) ys → occurs_left s x ts ≡ occurs_left s x (ts ++ Variable y ∷ [])
    left_again y m all = go (occurs x (full s (Variable y))) refl ∙ sym (occurs_left-append s x ts (Variable y ∷ []))
      where
        c : IsCovered s x (ts ++ Variable y ∷ []) y
        c = covered_at (ts ++ Variable y ∷ []) ys y all m

        none : (b : Bool) → b ≡ (b || false)
        none true = refl
        none false = refl

        go : (o : Bool) → occurs x (full s (Variable y)) ≡ o → occurs_left s x ts ≡ (occurs_left s x ts || (occurs x (full s (Variable y)) || false))
        go true e =
            let l = below_occurs (rank s (Variable y)) ts (again_below y c e) in
            l ∙ sym (or_left (occurs_left s x ts) (occurs x (full s (Variable y)) || false) l)
        go false e = none (occurs_left s x ts) ∙ ap (λ b. occurs_left s x ts || (b || false)) (sym e)

    -- a variable is visited, and its term comes in its place
    pub covered_bound : (y : ℕ) (t : Tree) → full s t ≡ full s (Variable y) → chain_of s t < chain s y → AllByRecursion (IsCovered s x (ts ++ Variable y ∷ [])) ys → AllByRecursion (IsCovered s x (ts ++ t ∷ [])) (ys ++ y ∷ [])
    covered_bound y t same less all =
        covered_more (ts ++ t ∷ []) ys y
        (kept (ts ++ Variable y ∷ []) (ts ++ t ∷ []) (λ n h. elim (below_last n ts (Variable y) h) [
          | inl k ↦ below_left n ts (t ∷ []) k
          | inr k ↦ below_right n ts (t ∷ []) (inl (omega (arith, k.0, falls), ap (occurs x) same ∙ k.1))
        ]) ys all)
        (λ o. below_right (rank s (Variable y)) ts (t ∷ []) (inl (falls, ap (occurs x) same ∙ o)))
      where
        falls : rank s t < rank s (Variable y)
        falls =
            let e = ap (λ u. nodes_of u * suc (length s)) same in
            omega (arith, e, less)

    -- the arguments of a compound term come in its place
    pub covered_arguments : (n f : ℕ) (t : Tree) (args : List Term) → full s t ≡ Compound f (all_full s (all_instances (raise n) (trees_of args))) → AllByRecursion (IsCovered s x (ts ++ t ∷ [])) ys → AllByRecursion (IsCovered s x (ts ++ map (instance (raise n)) (map tree_of args))) ys
    covered_arguments n f t args e = kept (ts ++ t ∷ []) (ts ++ map (instance (raise n)) (map tree_of args)) (λ m h. elim (below_last m ts t h) [
      | inl k ↦ below_left m ts (map (instance (raise n)) (map tree_of args)) k
      | inr k ↦
          let nodes = ap nodes_of e in
          let b = below_arguments n (nodes_of (full s t)) (chain_of s t) (map tree_of args) (omega (arith, nodes)) (sym (ap (occurs x) e) ∙ k.1) in
          below_right m ts (map (instance (raise n)) (map tree_of args)) (below_more (rank s t) m (map (instance (raise n)) (map tree_of args)) (omega (arith, k.0)) b)
    ]) ys

-- ---- variables that are asked for

pub still_wanted : (v m n x : ℕ) → m ≤ n → IsWanted v n x → IsWanted v m x
still_wanted v m n x l (inl e) = inl e
still_wanted v m n x l (inr h) = inr (omega (arith, l, h))

pub not_met : (v n y x : ℕ) → (v ≡ y → ⊥) → y < n → IsWanted v n x → x ≡ y → ⊥
not_met v n y x apart l (inl e) same = apart (sym e ∙ same)
not_met v n y x apart l (inr h) same = omega (arith, l, h, same)
