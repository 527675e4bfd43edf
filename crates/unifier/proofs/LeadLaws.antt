-- Laws of terms that come in the place of others in the occurs check.
use Rattle.std.proofs.Common.{◌≡◌, ◌⊎◌, inl, inr, ℕ, zero, suc, ◌+◌, ◌*◌, ◌<◌, ◌≤◌, Bool, true, false, ◌||◌, List, [], ◌∷◌, ◌++◌, map, length, drop, get_or, refl, ap, sym, ◌∙◌, subst, arith}
use Rattle.std.specs.List.{AllByRecursion}
use Rattle.std.proofs.lemmas.List.{at_drop_more, at_drop_all}
use Rattle.std.proofs.lemmas.Bool.{or_left}
use Rattle.cti_terms.specs.Tree.{Tree, Variable, Compound, instance, all_instances, nodes_of}
use Rattle.cti_terms.specs.declared.syntax.Term.{Term}
use Rattle.cti_terms.specs.Spell.{tree_of, trees_of}
use Rattle.cti_terms.specs.Unify.{Binding, occurs}
use Rattle.unifier.specs.Raised.{raise}
use Rattle.unifier.specs.Store.{full, all_full, chain, chain_of}
use Rattle.unifier.specs.Pending.{occurs_left, weight}
use Rattle.unifier.specs.Visits.{IsVisit, OccursBelow, IsCovered, Leads}
use Rattle.unifier.proofs.PendingLaws.{full_compound, or_none, or_comm, or_second_true, or_second_false, occurs_left-append, occurs_left-arguments, weight-arguments}
use Rattle.unifier.proofs.CoverLaws.{below_left, below_right, below_last, kept, left_bound, covered_absent, covered_again, left_again, covered_bound, covered_arguments}

pub lead_on : (s : List Binding) (x : ℕ) (ts us vs : List Tree) (ys zs ws : List ℕ) → Leads s x ts ys us zs → Leads s x us zs vs ws → Leads s x ts ys vs ws
lead_on s x ts us vs ys zs ws f g h =
    let a = f h in
    let b = g a.1 in
    (b.0 ∙ a.0, b.1)

-- a term in which x does not occur is left out
pub leads_absent : (s : List Binding) (x : ℕ) (ts : List Tree) (ys : List ℕ) (t : Tree) → occurs x (full s t) ≡ false → Leads s x (ts ++ t ∷ []) ys ts ys
leads_absent s x ts ys t gone h = (
  sym (occurs_left-append s x ts (t ∷ []) ∙ or_second_false (occurs_left s x ts) (occurs x (full s t) || false) (ap (λ b. b || false) gone)),
  covered_absent s x ts ys t gone h,
)

-- a variable that was visited is left out
pub leads_again : (s : List Binding) (x : ℕ) (ts : List Tree) (ys zs : List ℕ) (y : ℕ) (t : Tree) → t ≡ Variable y → IsVisit ys y zs false → Leads s x (ts ++ t ∷ []) ys ts zs
leads_again s x ts ys zs y t e v h =
    let k = subst (λ (u : Tree). AllByRecursion (IsCovered s x (ts ++ u ∷ [])) ys) e h in (
      left_again s x ts ys y v.0 k ∙ ap (λ u. occurs_left s x (ts ++ u ∷ [])) (sym e),
      subst (AllByRecursion (IsCovered s x ts)) (sym v.1) (covered_again s x ts ys y v.0 k),
    )

-- a variable is visited, and its term comes in its place
pub leads_bound : (s : List Binding) (x : ℕ) (ts : List Tree) (ys zs : List ℕ) (y : ℕ) (t u : Tree) → t ≡ Variable y → IsVisit ys y zs true → full s u ≡ full s (Variable y) → chain_of s u < chain s y → Leads s x (ts ++ t ∷ []) ys (ts ++ u ∷ []) zs
leads_bound s x ts ys zs y t u e v same falls h =
    let k = subst (λ (w : Tree). AllByRecursion (IsCovered s x (ts ++ w ∷ [])) ys) e h in (
      left_bound s x ts y u same ∙ ap (λ w. occurs_left s x (ts ++ w ∷ [])) (sym e),
      subst (AllByRecursion (IsCovered s x (ts ++ u ∷ []))) (sym v.1) (covered_bound s x ts ys y u same falls k),
    )

-- a term comes in the place of one that has as many nodes
pub leads_like : (s : List Binding) (x : ℕ) (ts : List Tree) (ys : List ℕ) (t u : Tree) → nodes_of (full s u) ≡ nodes_of (full s t) → chain_of s u ≤ chain_of s t → occurs x (full s u) ≡ occurs x (full s t) → Leads s x (ts ++ t ∷ []) ys (ts ++ u ∷ []) ys
leads_like s x ts ys t u nodes falls same h = (
  occurs_left-append s x ts (u ∷ []) ∙ ap (λ b. occurs_left s x ts || (b || false)) same ∙ sym (occurs_left-append s x ts (t ∷ [])),
  kept s x (ts ++ t ∷ []) (ts ++ u ∷ []) (λ n b. elim (below_last s x n ts t b) [
    | inl k ↦ below_left s x n ts (u ∷ []) k
    | inr k ↦
        let e = ap (λ m. m * suc (length s)) nodes in
        below_right s x n ts (u ∷ []) (inl (omega (arith, k.0, e, falls), same ∙ k.1))
  ]) ys h,
)

-- arguments come in the place of their term
pub leads_arguments : (s : List Binding) (x : ℕ) (ts : List Tree) (ys : List ℕ) (n f : ℕ) (t : Tree) (args : List Term) → full s t ≡ Compound f (all_full s (all_instances (raise n) (trees_of args))) → Leads s x (ts ++ t ∷ []) ys (ts ++ map (instance (raise n)) (map tree_of args)) ys
leads_arguments s x ts ys n f t args e h = (
  occurs_left-append s x ts (map (instance (raise n)) (map tree_of args))
      ∙ ap (λ b. occurs_left s x ts || b) (occurs_left-arguments s x n (map tree_of args) ∙ sym (ap (occurs x) e) ∙ sym (or_none (occurs x (full s t))))
      ∙ sym (occurs_left-append s x ts (t ∷ [])),
  covered_arguments s x ts ys n f t args e h,
)

-- a compound term may have any name
pub leads_compound : (s : List Binding) (x : ℕ) (ts : List Tree) (ys : List ℕ) (n f : ℕ) (t : Tree) (args : List Term) → t ≡ Compound f (all_instances (raise n) (trees_of args)) → Leads s x (ts ++ t ∷ []) ys (ts ++ Compound 0 (all_instances (raise n) (trees_of args)) ∷ []) ys
leads_compound s x ts ys n f t args e =
    let a = all_instances (raise n) (trees_of args) in
    let there : full s t ≡ Compound f (all_full s a) = ap (full s) e ∙ full_compound s f a in
    let here : full s (Compound 0 a) ≡ Compound 0 (all_full s a) = full_compound s 0 a in
    leads_like s x ts ys t (Compound 0 a) (ap nodes_of here ∙ sym (ap nodes_of there)) (omega arith) (ap (occurs x) here ∙ sym (ap (occurs x) there))

pub weight_compound : (s : List Binding) (n f : ℕ) (t : Tree) (args : List Term) → t ≡ Compound f (all_instances (raise n) (trees_of args)) → nodes_of (full s (Compound 0 (all_instances (raise n) (trees_of args)))) ≡ nodes_of (full s t)
weight_compound s n f t args e =
    let a = all_instances (raise n) (trees_of args) in
    ap nodes_of (full_compound s 0 a) ∙ sym (ap nodes_of (ap (full s) e ∙ full_compound s f a))

below_either : (s : List Binding) (x n : ℕ) (ts us : List Tree) → OccursBelow s x n (ts ++ us) → OccursBelow s x n ts ⊎ OccursBelow s x n us
below_either s x n [] us h = inr h
below_either s x n (t ∷ ts) us (inl h) = inl (inl h)
below_either s x n (t ∷ ts) us (inr h) = elim (below_either s x n ts us h) [ inl k ↦ inl (inr k) | inr k ↦ inr k ]

-- the order of terms does not matter
or_swap : (b c d : Bool) → ((b || d) || c) ≡ ((b || c) || d)
or_swap true c d = refl
or_swap false c d = or_comm d c

pub leads_middle : (s : List Binding) (x : ℕ) (ts us vs : List Tree) (ys : List ℕ) → Leads s x ((ts ++ us) ++ vs) ys ((ts ++ vs) ++ us) ys
leads_middle s x ts us vs ys h = (
  occurs_left-append s x (ts ++ vs) us
      ∙ ap (λ b. b || occurs_left s x us) (occurs_left-append s x ts vs)
      ∙ or_swap (occurs_left s x ts) (occurs_left s x us) (occurs_left s x vs)
      ∙ ap (λ b. b || occurs_left s x vs) (sym (occurs_left-append s x ts us))
      ∙ sym (occurs_left-append s x (ts ++ us) vs),
  kept s x ((ts ++ us) ++ vs) ((ts ++ vs) ++ us) (λ n b. elim (below_either s x n (ts ++ us) vs b) [
    | inl k ↦ elim (below_either s x n ts us k) [
      | inl l ↦ below_left s x n (ts ++ vs) us (below_left s x n ts vs l)
      | inr l ↦ below_right s x n (ts ++ vs) us l
    ]
    | inr k ↦ below_left s x n (ts ++ vs) us (below_right s x n ts vs k)
  ]) ys h,
)

or_last : (b c d e : Bool) → (((b || d) || e) || (c || false)) ≡ ((b || (c || d)) || e)
or_last true c d e = refl
or_last false true true e = refl
or_last false true false true = refl
or_last false true false false = refl
or_last false false d e = or_none (d || e)

-- a term becomes the last one
pub leads_last : (s : List Binding) (x : ℕ) (ts us vs : List Tree) (t : Tree) (ys : List ℕ) → Leads s x ((ts ++ t ∷ us) ++ vs) ys (((ts ++ us) ++ vs) ++ t ∷ []) ys
leads_last s x ts us vs t ys h =
    let all = (ts ++ us) ++ vs in (
      occurs_left-append s x all (t ∷ [])
          ∙ ap (λ b. b || (occurs x (full s t) || false)) (occurs_left-append s x (ts ++ us) vs ∙ ap (λ b. b || occurs_left s x vs) (occurs_left-append s x ts us))
          ∙ or_last (occurs_left s x ts) (occurs x (full s t)) (occurs_left s x us) (occurs_left s x vs)
          ∙ ap (λ b. b || occurs_left s x vs) (sym (occurs_left-append s x ts (t ∷ us)))
          ∙ sym (occurs_left-append s x (ts ++ t ∷ us) vs),
      kept s x ((ts ++ t ∷ us) ++ vs) (all ++ t ∷ []) (λ n b. elim (below_either s x n (ts ++ t ∷ us) vs b) [
        | inl k ↦ elim (below_either s x n ts (t ∷ us) k) [
          | inl l ↦ below_left s x n all (t ∷ []) (below_left s x n (ts ++ us) vs (below_left s x n ts us l))
          | inr (inl l) ↦ below_right s x n all (t ∷ []) (inl l)
          | inr (inr l) ↦ below_left s x n all (t ∷ []) (below_left s x n (ts ++ us) vs (below_right s x n ts us l))
        ]
        | inr k ↦ below_left s x n all (t ∷ []) (below_right s x n (ts ++ us) vs k)
      ]) ys h,
    )

-- ---- arguments one by one

-- the arguments from number i on, counted from 0
abbrev pub arguments_from : ℕ → ℕ → List Term → List Tree
arguments_from n i args = map (instance (raise n)) (map tree_of (drop i args))

pub arguments_more : (n i : ℕ) (args : List Term) (t : Term) → i < length args → t ≡ get_or args i t → arguments_from n i args ≡ instance (raise n) (tree_of t) ∷ arguments_from n (i + 1) args
arguments_more n i args t lt is = at_drop_more (λ l. map (instance (raise n)) (map tree_of l)) args i t lt ∙ ap (λ u. instance (raise n) (tree_of u) ∷ arguments_from n (i + 1) args) (sym is)

left_from : (s : List Binding) (x n i : ℕ) (args : List Term) → occurs_left s x (arguments_from n i args) ≡ true → occurs_left s x (arguments_from n 0 args) ≡ true
left_from s x n zero [] h = h
left_from s x n zero (t ∷ args) h = h
left_from s x n (suc i) [] h = h
left_from s x n (suc i) (t ∷ args) h = or_second_true (occurs x (full s (instance (raise n) (tree_of t)))) (occurs_left s x (arguments_from n 0 args)) (left_from s x n i args h)

pub found_argument : (s : List Binding) (x n i : ℕ) (args : List Term) (t : Term) → i < length args → t ≡ get_or args i t → occurs x (full s (instance (raise n) (tree_of t))) ≡ true → occurs x (full s (Compound 0 (all_instances (raise n) (trees_of args)))) ≡ true
found_argument s x n i args t lt is h =
    ap (occurs x) (full_compound s 0 (all_instances (raise n) (trees_of args)))
    ∙ sym (occurs_left-arguments s x n (map tree_of args))
    ∙ left_from s x n i args (ap (occurs_left s x) (arguments_more n i args t lt is) ∙ or_left (occurs x (full s (instance (raise n) (tree_of t)))) (occurs_left s x (arguments_from n (i + 1) args)) h)

pub weight_all : (s : List Binding) (n : ℕ) (args : List Term) → weight s (arguments_from n 0 args) < nodes_of (full s (Compound 0 (all_instances (raise n) (trees_of args))))
weight_all s n args = omega (arith, weight-arguments s n (map tree_of args), ap nodes_of (full_compound s 0 (all_instances (raise n) (trees_of args))))

pub arguments_none : (n i : ℕ) (args : List Term) → length args ≤ i → arguments_from n i args ≡ []
arguments_none n i args h = at_drop_all (λ l. map (instance (raise n)) (map tree_of l)) args i h
