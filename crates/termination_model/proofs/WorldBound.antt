-- A goal is bounded where what each number leaves of it is, and only finitely many numbers leave anything.
use Rattle.std.proofs.Common.{◌≡◌, ℕ, suc, ◌<◌, ◌≤◌, Bool, List, [], ◌∷◌, ◌++◌, length, Option, None, Some, sym, subst, ◌∙◌, arith, refl}
use Rattle.std.proofs.lemmas.Option.{some_pair_parts}
use Rattle.cti_terms.specs.declared.derivation.Goal.{Goal}
use Rattle.cti_terms.specs.Listing.{Listing}
use Rattle.cti_terms.specs.Unify.{Binding}
use Rattle.cti_terms.specs.Worlds.{World, resolve_in, IsDerivationAfter, BoundedAfter}
use Rattle.termination_model.proofs.Bound.{most, le-most}

module _ (p : Listing) (is_open : ℕ → Bool) (w : World) (past : List ℕ) (g : Goal) (limit : ℕ)
    (within : (k : ℕ) (bs : List Binding) (h : Goal) → resolve_in p is_open w past g k ≡ Some (bs, h) → k ≤ limit)
    (step : (k : ℕ) (bs : List Binding) (h : Goal) → resolve_in p is_open w past g k ≡ Some (bs, h) → BoundedAfter p is_open w (past ++ k ∷ []) h) where
  abbrev Exceeds : ℕ → ℕ → Type 0
  Exceeds k n = (bs : List Binding) (h : Goal) → resolve_in p is_open w past g k ≡ Some (bs, h) → (ks : List ℕ) → IsDerivationAfter p is_open w (past ++ k ∷ []) h ks → length ks < n

  exceeded : (k : ℕ) → (n : ℕ) × Exceeds k n
  exceeded k = go (resolve_in p is_open w past g k) refl
    where
      go : (o : Option (List Binding × Goal)) → resolve_in p is_open w past g k ≡ o → (n : ℕ) × Exceeds k n
      go None e = (0, λ bs h r ks d. let none = sym e ∙ r in cc)
      go (Some (cs, f)) e =
          let b = step k cs f e in
          (b.0, λ bs h r ks d. b.1 ks (subst (λ (x : Goal). IsDerivationAfter p is_open w (past ++ k ∷ []) x ks) (some_pair_parts bs cs h f (sym r ∙ e)).1 d))

  abbrev number : ℕ → ℕ
  number k = (exceeded k).0

  short : (ks : List ℕ) → IsDerivationAfter p is_open w past g ks → length ks < suc (most number limit)
  short [] d = omega arith
  short (k ∷ ks) d =
      let here : length ks < number k = (exceeded k).1 d.0 d.1 d.2 ks d.3 in
      let below : k ≤ limit = within k d.0 d.1 d.2 in
      let le : number k ≤ most number limit = le-most number limit k below in
      omega arith

  pub bounded_in_by_steps : BoundedAfter p is_open w past g
  bounded_in_by_steps = (suc (most number limit), short)
