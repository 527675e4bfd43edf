-- The truth of a term depends on its own variables alone, for every norm.
use Rattle.std.proofs.Common.{◌≡◌, ℕ, ◌<◌, Bool, true, false, if◌then◌else◌, nat_lt, ℤ, pos, List, refl, ap, sym, ◌∙◌, ltb-true}
use Rattle.std.proofs.lemmas.Bool.{and_parts}
use Rattle.cti_terms.specs.Tree.{Tree, Trees, Variable, Integer, Compound, End, More, instance, all_instances, all_truths, is_below}
use Rattle.term_size.specs.Norm.{IsNorm}

-- a term whose variables below n stay is its own instance
keeping : ℕ → ℕ → Tree
keeping n y = if nat_lt y n then Variable y else Integer (pos 0)

kept : (n y : ℕ) → nat_lt y n ≡ true → keeping n y ≡ Variable y
unfolding keeping
kept n y h = rw h refl

mutual
  itself : (n : ℕ) (t : Tree) → is_below n t ≡ true → instance (keeping n) t ≡ t
  itself n (Variable y) h = kept n y h
  itself n (Integer m) h = refl
  itself n (Compound f ts) h = ap (Compound f) (all_themselves n ts h)

  all_themselves : (n : ℕ) (ts : Trees) → all_truths (λ y. nat_lt y n) ts ≡ true → all_instances (keeping n) ts ≡ ts
  all_themselves n End h = refl
  all_themselves n (More t ts) h =
      let p = and_parts (is_below n t) (all_truths (λ y. nat_lt y n) ts) h in
      let l = itself n t p.0 in
      let r = all_themselves n ts p.1 in
      λ i. More (l i) (r i)

module _ (size : (ℕ → ℕ) → Tree → ℕ) (truth : (ℕ → Bool) → Tree → Bool) (expression : ℕ → Tree → List ℤ) (norm : IsNorm size truth expression) where
  integer_true : (v : ℕ → Bool) (m : ℤ) → truth v (Integer m) ≡ true
  integer_true v m = norm.rigid_truth v (Integer m) (norm.closed_truth (Integer m) refl)

  -- where some variable can be false, each variable has its own truth
  own_truth : (z : ℕ) (u : ℕ → Bool) → truth u (Variable z) ≡ false → (x : ℕ) (g : ℕ → Bool) → truth g (Variable x) ≡ g x
  own_truth z u off x g =
      (λ i. truth (λ y. sym (value (g y)) i) (Variable x)) ∙ sym (norm.truth_of_instance u (λ y. if g y then Integer (pos 0) else Variable z) (Variable x)) ∙ value (g x)
    where
      value : (b : Bool) → truth u (if b then Integer (pos 0) else Variable z) ≡ b
      value true = integer_true u (pos 0)
      value false = off

  variable_agrees : (x : ℕ) (v w : ℕ → Bool) → v x ≡ w x → truth v (Variable x) ≡ truth w (Variable x)
  variable_agrees x v w e = go (truth v (Variable x)) (truth w (Variable x)) refl refl
    where
      go : (a b : Bool) → truth v (Variable x) ≡ a → truth w (Variable x) ≡ b → truth v (Variable x) ≡ truth w (Variable x)
      go true true p q = p ∙ sym q
      go false b p q = own_truth x v p x v ∙ e ∙ sym (own_truth x v p x w)
      go true false p q = own_truth x w q x v ∙ e ∙ sym (own_truth x w q x w)

  pub truth_agrees : (n : ℕ) (t : Tree) (v w : ℕ → Bool) → is_below n t ≡ true → ((x : ℕ) → x < n → v x ≡ w x) → truth v t ≡ truth w t
  unfolding keeping
  truth_agrees n t v w below agree =
      let e = itself n t below in
      ap (truth v) (sym e) ∙ norm.truth_of_instance v (keeping n) t ∙ (λ i. truth (λ y. at y i) t) ∙ sym (norm.truth_of_instance w (keeping n) t) ∙ ap (truth w) e
    where
      go : (y : ℕ) (b : Bool) → nat_lt y n ≡ b → truth v (if b then Variable y else Integer (pos 0)) ≡ truth w (if b then Variable y else Integer (pos 0))
      go y true p = variable_agrees y v w (agree y (ltb-true y n p))
      go y false p = integer_true v (pos 0) ∙ sym (integer_true w (pos 0))

      at : (y : ℕ) → truth v (keeping n y) ≡ truth w (keeping n y)
      at y = go y (nat_lt y n) refl
