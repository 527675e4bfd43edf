-- Laws of terms that the occurs check goes through without a stack.
use Rattle.std.proofs.Common.{◌≡◌, ℕ, ◌+◌, ◌<◌, ◌≤◌, true, false, ◌||◌, true≢false, inl, inr, List, [], ◌∷◌, map, length, get_or, refl, ap, sym, ◌∙◌, arith, eqb-true}
use Rattle.std.specs.List.{AllByRecursion}
use Rattle.std.proofs.lemmas.Bool.{or_cases}
use Rattle.cti_terms.specs.Tree.{Tree, Trees, Variable, Compound, instance, all_instances}
use Rattle.cti_terms.specs.declared.syntax.Term.{Term}
use Rattle.cti_terms.specs.Spell.{tree_of, trees_of}
use Rattle.cti_terms.specs.Unify.{Binding, occurs}
use Rattle.unifier.specs.Raised.{raise}
use Rattle.unifier.specs.Store.{all_full, full}
use Rattle.unifier.specs.Pending.{occurs_left}
use Rattle.unifier.specs.Visits.{IsFlat}
use Rattle.unifier.proofs.PendingLaws.{eqb_off, full_compound, occurs_left-arguments}
use Rattle.unifier.proofs.LeadLaws.{arguments_from, arguments_more, arguments_none}

-- no variable occurs
pub flat_constant : (s : List Binding) (x m : ℕ) (t u : Tree) → full s t ≡ full s u → ((y : ℕ) → occurs y (full s t) ≡ false) → IsFlat s x u m
flat_constant s x m t u same none = (
  ap (occurs x) (sym same) ∙ none x,
  λ y o. absurd (true≢false (sym o ∙ ap (occurs y) (sym same) ∙ none y)),
)

-- another free variable
pub flat_variable : (s : List Binding) (x y m : ℕ) (u : Tree) → full s u ≡ Variable y → (x ≡ y → ⊥) → y < m → IsFlat s x u m
flat_variable s x y m u same other less = (
  ap (occurs x) same ∙ eqb_off x y other,
  λ z o. (let e : z ≡ y = eqb-true z y (sym (ap (occurs z) same) ∙ o) in omega (arith, e, less)),
)

-- a greater number
pub flat_wider : (s : List Binding) (x m k : ℕ) (t : Tree) → m ≤ k → IsFlat s x t m → IsFlat s x t k
flat_wider s x m k t le h = (h.0, λ y o. (let l = h.1 y o in omega (arith, l, le)))

-- each term is flat
abbrev pub AllFlat : List Binding → ℕ → ℕ → List Tree → Type 0
AllFlat s x m = AllByRecursion (λ (t : Tree). IsFlat s x t m)

flat_absent : (s : List Binding) (x m : ℕ) (ts : List Tree) → AllFlat s x m ts → occurs_left s x ts ≡ false
flat_absent s x m [] h = refl
flat_absent s x m (t ∷ ts) h = ap (λ b. b || occurs_left s x ts) h.0.0 ∙ flat_absent s x m ts h.1

flat_below : (s : List Binding) (x m : ℕ) (ts : List Tree) → AllFlat s x m ts → (y : ℕ) → occurs_left s y ts ≡ true → y < m
flat_below s x m [] h y o = absurd (true≢false (sym o))
flat_below s x m (t ∷ ts) h y o = elim (or_cases (occurs y (full s t)) (occurs_left s y ts) o) [ inl k ↦ h.0.1 y k | inr k ↦ flat_below s x m ts h.1 y k ]

-- arguments from one on, where it is flat and those after it are, and where none is left
pub flat_more : (s : List Binding) (x m n i : ℕ) (args : List Term) (t : Term) (above : ℕ) → i < length args → t ≡ get_or args i t → above ≤ m → IsFlat s x (instance (raise n) (tree_of t)) above → AllFlat s x m (arguments_from n (i + 1) args) → AllFlat s x m (arguments_from n i args)
flat_more s x m n i args t above lt is le flat others = rw (arguments_more n i args t lt is) (flat_wider s x above m (instance (raise n) (tree_of t)) le flat, others)

pub flat_none : (s : List Binding) (x m n i : ℕ) (args : List Term) → length args ≤ i → AllFlat s x m (arguments_from n i args)
flat_none s x m n i args none = rw (arguments_none n i args none) tt

-- the arguments are, and so is the term
pub flat_arguments : (s : List Binding) (x m n : ℕ) (args : List Term) → AllFlat s x m (arguments_from n 0 args) → IsFlat s x (Compound 0 (all_instances (raise n) (trees_of args))) m
flat_arguments s x m n args h = (
  same x ∙ flat_absent s x m (arguments_from n 0 args) h,
  λ y o. flat_below s x m (arguments_from n 0 args) h y (sym (same y) ∙ o),
)
  where
    same : (y : ℕ) → occurs y (full s (Compound 0 (all_instances (raise n) (trees_of args)))) ≡ occurs_left s y (arguments_from n 0 args)
    same y = ap (occurs y) (full_compound s 0 (all_instances (raise n) (trees_of args))) ∙ sym (occurs_left-arguments s y n (map tree_of args))

-- the name of a compound term does not matter
pub flat_met : (s : List Binding) (x m n f : ℕ) (t : Tree) (args : List Term) → full s t ≡ Compound f (all_full s (all_instances (raise n) (trees_of args)))
    → IsFlat s x (Compound 0 (all_instances (raise n) (trees_of args))) m → IsFlat s x t m
flat_met s x m n f t args e h = (
  same x ∙ h.0,
  λ y o. h.1 y (sym (same y) ∙ o),
)
  where
    a : Trees
    a = all_instances (raise n) (trees_of args)

    same : (y : ℕ) → occurs y (full s t) ≡ occurs y (full s (Compound 0 a))
    same y = ap (occurs y) e ∙ sym (ap (occurs y) (full_compound s 0 a))

pub flat_named : (s : List Binding) (x m n f : ℕ) (t : Tree) (args : List Term) → t ≡ Compound f (all_instances (raise n) (trees_of args)) → IsFlat s x (Compound 0 (all_instances (raise n) (trees_of args))) m → IsFlat s x t m
flat_named s x m n f t args e h = flat_met s x m n f t args (ap (full s) e ∙ full_compound s f (all_instances (raise n) (trees_of args))) h
