-- Numbers that transitions lack.
use Rattle.std.proofs.Common.{◌≡◌, ◌==◌, ◌&&◌, ◌||◌, ◌⊎◌, ◌↔◌, IsTrue, ℕ, zero, suc, ℤ, Bool, true, false, List, [], ◌∷◌, slice_get, Option, None, Some, inl, inr, refl, ap, sym, ◌∙◌, eqb-true, eq-eqb}
use Rattle.std.specs.Prelude.{cond, filter, not}
use Rattle.std.specs.List.{list_any}
use Rattle.level_systems.specs.Subsequences.{AreOnce}
use Rattle.linear_rows.specs.Members.{In}
use Rattle.linear_rows.proofs.Members.{in-filter, of-filter}
use Rattle.termination_model.specs.claims.Claims.{SomeOf}
use Rattle.transitions.specs.StuckSets.{Feature, Lacks, LacksAt}
use Rattle.transitions.specs.Transitions.{Transition}
use Rattle.number_lists.specs.Coursing.{free}
use Rattle.number_lists.specs.Features.{AreColumnsOnce, is_missing, lacks, lacks_at}

missing : (es : List (Option (List ℤ))) (i : ℕ) → is_missing es i ≡ true → slice_get es i ≡ Some None
missing [] i e = cc
missing (None ∷ es) zero e = refl
missing (Some x ∷ es) zero e = cc
missing (x ∷ es) (suc i) e = missing es i e

is_so : (es : List (Option (List ℤ))) (i : ℕ) → slice_get es i ≡ Some None → is_missing es i ≡ true
is_so [] i e = cc
is_so (None ∷ es) zero e = refl
is_so (Some x ∷ es) zero e = cc
is_so (x ∷ es) (suc i) e = is_so es i e

pub both : (a b : Bool) → (a && b) ≡ true → (a ≡ true) × (b ≡ true)
both true true e = (refl, refl)
both true false e = cc
both false b e = cc

pub either : (a b : Bool) → (a || b) ≡ true → (a ≡ true) ⊎ (b ≡ true)
either true b e = inl refl
either false b e = inr e

pub or_right : (a b : Bool) → b ≡ true → (a || b) ≡ true
or_right true b e = refl
or_right false b e = e

at_of : (q : ℕ) (es : List (Option (List ℤ))) (f : Feature) → lacks_at q es f ≡ true → LacksAt q es f
at_of q es (p, zero) e = cc
at_of q es (p, suc i) e = let h = both (q == p) (is_missing es i) e in (eqb-true q p h.0, missing es i h.1)

at_is : (q : ℕ) (es : List (Option (List ℤ))) (f : Feature) → LacksAt q es f → lacks_at q es f ≡ true
at_is q es (p, zero) h = absurd h
at_is q es (p, suc i) h = let a = eq-eqb q p h.0 in let b = is_so es i h.1 in λ j. a j && b j

pub lacks_of : (τ : Transition) (f : Feature) → lacks τ f ≡ true → Lacks τ f
lacks_of τ f e = elim (either (lacks_at τ.head τ.head_columns f) (lacks_at τ.call τ.call_columns f) e) [
  | inl a ↦ inl (at_of τ.head τ.head_columns f a)
  | inr b ↦ inr (at_of τ.call τ.call_columns f b)
]

pub is_lacks : (τ : Transition) (f : Feature) → Lacks τ f → lacks τ f ≡ true
is_lacks τ f (inl a) = ap (λ b. b || lacks_at τ.call τ.call_columns f) (at_is τ.head τ.head_columns f a)
is_lacks τ f (inr b) = or_right (lacks_at τ.head τ.head_columns f) (lacks_at τ.call τ.call_columns f) (at_is τ.call τ.call_columns f b)

-- a test that says whether a transition lacks a number
pub test_is : (τ : Transition) (f : Feature) (b : Bool) → IsTrue b ↔ Lacks τ f → b ≡ lacks τ f
test_is τ f true h = sym (is_lacks τ f (h.0 refl))
test_is τ f false h = go (lacks τ f) refl
  where
    go : (c : Bool) → lacks τ f ≡ c → false ≡ c
    go false e = refl
    go true e = h.1 (lacks_of τ f e)

any_lacks : (f : Feature) (τs : List Transition) → list_any (λ τ. lacks τ f) τs ≡ true → SomeOf (λ (τ : Transition). Lacks τ f) τs
any_lacks f [] e = cc
any_lacks f (τ ∷ τs) e = elim (either (lacks τ f) (list_any (λ τ. lacks τ f) τs) e) [
  | inl a ↦ inl (lacks_of τ f a)
  | inr b ↦ inr (any_lacks f τs b)
]

none_lacks : (f : Feature) (τs : List Transition) (τ : Transition) → list_any (λ τ. lacks τ f) τs ≡ false → In τ τs → Lacks τ f → ⊥
none_lacks f [] τ e i h = i
none_lacks f (σ ∷ τs) τ e (inl is) h = let t : lacks σ f ≡ true = ap (λ (z : Transition). lacks z f) is ∙ is_lacks τ f h in cc
none_lacks f (σ ∷ τs) τ e (inr i) h = none_lacks f τs τ (go (lacks σ f) e) i h
  where
    go : (b : Bool) → (b || list_any (λ τ. lacks τ f) τs) ≡ false → list_any (λ τ. lacks τ f) τs ≡ false
    go true e = cc
    go false e = e

-- a number is free, or some transition lacks it
pub free_or : (fs : List Feature) (τs : List Transition) (f : Feature) → In f fs → In f (free fs τs) ⊎ SomeOf (λ (τ : Transition). Lacks τ f) τs
free_or fs τs f i = go (list_any (λ τ. lacks τ f) τs) refl
  where
    go : (b : Bool) → list_any (λ τ. lacks τ f) τs ≡ b → In f (free fs τs) ⊎ SomeOf (λ (τ : Transition). Lacks τ f) τs
    go true e = inr (any_lacks f τs e)
    go false e = inl (in-filter (λ g. not (list_any (λ τ. lacks τ g) τs)) fs f (ap not e) i)

pub free_among : (fs : List Feature) (τs : List Transition) (f : Feature) → In f (free fs τs) → In f fs
free_among fs τs f i = (of-filter (λ g. not (list_any (λ τ. lacks τ g) τs)) fs f i).0

pub free_lacks : (fs : List Feature) (τs : List Transition) (τ : Transition) → In τ τs → (f : Feature) → In f (free fs τs) → Lacks τ f → ⊥
free_lacks fs τs τ i f h = none_lacks f τs τ (go (list_any (λ τ. lacks τ f) τs) (of-filter (λ g. not (list_any (λ τ. lacks τ g) τs)) fs f h).1) i
  where
    go : (b : Bool) → not b ≡ true → b ≡ false
    go true e = cc
    go false e = refl

pub filter_once : (p : Feature → Bool) (fs : List Feature) → AreColumnsOnce fs → AreColumnsOnce (filter p fs)
filter_once p [] h = tt
filter_once p (f ∷ fs) h = go (p f) (filter_once p fs h.1)
  where
    own : (f.1 ≡ 0) ⊎ (In f fs → ⊥) → (f.1 ≡ 0) ⊎ (In f (filter p fs) → ⊥)
    own (inl e) = inl e
    own (inr n) = inr (λ i. n (of-filter p fs f i).0)

    go : (b : Bool) → AreColumnsOnce (filter p fs) → AreColumnsOnce (cond b (f ∷ filter p fs) (filter p fs))
    go true rest = (own h.0, rest)
    go false rest = rest

pub free_once : (fs : List Feature) (τs : List Transition) → AreColumnsOnce fs → AreColumnsOnce (free fs τs)
free_once fs τs h = filter_once (λ g. not (list_any (λ τ. lacks τ g) τs)) fs h

pub filter_sole : (p : Feature → Bool) (fs : List Feature) → AreOnce fs → AreOnce (filter p fs)
filter_sole p [] h = tt
filter_sole p (f ∷ fs) h = go (p f) (filter_sole p fs h.1)
  where
    go : (b : Bool) → AreOnce (filter p fs) → AreOnce (cond b (f ∷ filter p fs) (filter p fs))
    go true rest = ((λ i. h.0 (of-filter p fs f i).0), rest)
    go false rest = rest

pub free_sole : (fs : List Feature) (τs : List Transition) → AreOnce fs → AreOnce (free fs τs)
free_sole fs τs h = filter_sole (λ g. not (list_any (λ τ. lacks τ g) τs)) fs h

pub any_at : {X : Type 0} (p : X → Bool) (xs : List X) (i : ℕ) (x : X) → slice_get xs i ≡ Some x → p x ≡ true → list_any p xs ≡ true
any_at p [] i x at e = cc
any_at p (y ∷ ys) zero x at e = let same : y ≡ x = cc in ap (λ b. b || list_any p ys) (ap p same ∙ e)
any_at p (y ∷ ys) (suc i) x at e = or_right (p y) (list_any p ys) (any_at p ys i x at e)
