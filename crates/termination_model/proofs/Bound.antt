-- A goal is bounded where what each number leaves of it is.
use Rattle.std.proofs.Common.{◌≡◌, ℕ, zero, suc, ◌<◌, ◌≤◌, max, List, [], ◌∷◌, length, slice_get, Option, None, Some, IsSomeAnd, sym, subst, ◌∙◌, inl, inr, arith, refl}
use Rattle.std.proofs.lemmas.Option.{some_pair_parts}
use Rattle.cti_terms.specs.declared.derivation.Goal.{Goal}
use Rattle.cti_terms.specs.Derive.{IsDerivation, Bounded}
use Rattle.cti_terms.specs.Listing.{Listing}
use Rattle.cti_terms.specs.Resolve.{resolve}
use Rattle.cti_terms.specs.ResolutionStep.{LeavesFrom}
use Rattle.cti_terms.specs.Unify.{Binding}
use Rattle.cti_terms.proofs.ResolveLaws.{resolve_finds}
use Rattle.termination_model.proofs.Order.{less_or_same}

-- the greatest value below or at a number
abbrev pub most : (ℕ → ℕ) → ℕ → ℕ
most f zero = f zero
most f (suc n) = max (most f n) (f (suc n))

pub le-most : (f : ℕ → ℕ) (n k : ℕ) → k ≤ n → f k ≤ most f n
le-most f zero k h = let same : k ≡ 0 = omega arith in rw same (omega arith)
le-most f (suc n) k h =
    elim (less_or_same k (suc n) h) [
      | inl l ↦ omega (arith, le-most f n k (omega arith))
      | inr same ↦ rw same (omega arith)
    ]

pub within : {X : Type 0} (Q : X → Type 0) (xs : List X) (i : ℕ) → IsSomeAnd (slice_get xs i) Q → i < length xs
within Q [] i h = absurd h
within Q (x ∷ xs) zero h = omega arith
within Q (x ∷ xs) (suc i) h = omega (arith, within Q xs i h)

module _ (p : Listing) (g : Goal) (step : (k : ℕ) (bs : List Binding) (h : Goal) → resolve p g k ≡ Some (bs, h) → Bounded p h) where
  abbrev Exceeds : ℕ → ℕ → Type 0
  Exceeds k n = (bs : List Binding) (h : Goal) → resolve p g k ≡ Some (bs, h) → (ks : List ℕ) → IsDerivation p h ks → length ks < n

  exceeded : (k : ℕ) → (n : ℕ) × Exceeds k n
  exceeded k = go (resolve p g k) refl
    where
      go : (o : Option (List Binding × Goal)) → resolve p g k ≡ o → (n : ℕ) × Exceeds k n
      go None e = (0, λ bs h r ks d. let none = sym e ∙ r in cc)
      go (Some (cs, f)) e =
          let b = step k cs f e in
          (b.0, λ bs h r ks d. b.1 ks (subst (λ (x : Goal). IsDerivation p x ks) (some_pair_parts bs cs h f (sym r ∙ e)).1 d))

  abbrev number : ℕ → ℕ
  number k = (exceeded k).0

  pub number_within : (k : ℕ) (bs : List Binding) (h : Goal) → resolve p g k ≡ Some (bs, h) → k ≤ length p.clauses
  number_within zero bs h r = omega arith
  number_within (suc i) bs h r = omega (arith, within (λ c. LeavesFrom g.atoms g.fresh c bs h) p.clauses i (resolve_finds p g (suc i) bs h r))

  short : (ks : List ℕ) → IsDerivation p g ks → length ks < suc (most number (length p.clauses))
  short [] d = omega arith
  short (k ∷ ks) d =
      let here : length ks < number k = (exceeded k).1 d.0 d.1 d.2 ks d.3 in
      let below : k ≤ length p.clauses = number_within k d.0 d.1 d.2 in
      let le : number k ≤ most number (length p.clauses) = le-most number (length p.clauses) k below in
      omega arith

  pub bounded_by_steps : Bounded p g
  bounded_by_steps = (suc (most number (length p.clauses)), short)
