-- Steps and derivations in a world.
use Rattle.std.proofs.Common.{◌≡◌, ◌↔◌, ℕ, zero, suc, ◌≤◌, Bool, true, false, if◌then◌else◌, List, [], ◌∷◌, ◌++◌, length, slice_get, Option, None, Some, option_map, unwrap_or, refl, ap, sym, ◌∙◌, arith}
use Rattle.cti_terms.specs.declared.atom_list.Atom.{Atom}
use Rattle.cti_terms.specs.declared.derivation.Goal.{Goal}
use Rattle.cti_terms.specs.Listing.{Listing, numbered}
use Rattle.cti_terms.specs.Unify.{Binding}
use Rattle.cti_terms.specs.Resolve.{passed, resolve}
use Rattle.cti_terms.specs.Derive.{IsDerivation, Bounded}
use Rattle.cti_terms.specs.Worlds.{Answer, World, begins_open, by_answer, resolve_open, resolve_in, IsDerivationAfter, BoundedIn}
use Rattle.cti_terms.proofs.Bounds.{no_step_without_atoms}

-- what an answer leaves, from the number of it
pub answer_there : (o : Option Answer) (rest : List Atom) (bs : List Binding) (h : Goal) → option_map (by_answer rest) o ≡ Some (bs, h)
    → (r : Answer) × (o ≡ Some r) × (passed rest r.1 r.0 ≡ (bs, h))
answer_there None rest bs h e = absurd (cc)
answer_there (Some r) rest bs h e = (r, refl, ap (λ (o : Option (List Binding × Goal)). unwrap_or o (bs, h)) e)

-- an element with a number has a number within the length
pub numbered_within : {X : Type 0} (xs : List X) (k : ℕ) (x : X) → numbered xs k ≡ Some x → k ≤ length xs
numbered_within {X = X} xs zero x e = omega arith
numbered_within {X = X} xs (suc i) x e = go xs i e
  where
    go : (ys : List X) (j : ℕ) → slice_get ys j ≡ Some x → suc j ≤ length ys
    go [] j f = absurd (cc)
    go (y ∷ ys) zero f = omega arith
    go (y ∷ ys) (suc j) f = omega (arith, go ys j f)

module _ (p : Listing) (is_open : ℕ → Bool) (w : World) where
  -- a goal with an open first atom is resolved by an answer, any other one as ever
  pub step_kinds : (a : Atom) (rest : List Atom) (n : ℕ) (past : List ℕ) (k : ℕ) (bs : List Binding) (h : Goal)
      → resolve_in p is_open w past (record { atoms = a ∷ rest; fresh = n }) k ≡ Some (bs, h)
      → (P : Type 0)
      → (is_open a.pred.0 ≡ true → (r : Answer) → numbered (w past n a) k ≡ Some r → passed rest r.1 r.0 ≡ (bs, h) → P)
      → (is_open a.pred.0 ≡ false → resolve p (record { atoms = a ∷ rest; fresh = n }) k ≡ Some (bs, h) → P) → P
  step_kinds a rest n past k bs h e P answered other = go (is_open a.pred.0) refl e
    where
      go : (b : Bool) → is_open a.pred.0 ≡ b
          → (if b then resolve_open w past (a ∷ rest) n k else resolve p (record { atoms = a ∷ rest; fresh = n }) k) ≡ Some (bs, h) → P
      go true o f = let r = answer_there (numbered (w past n a) k) rest bs h f in answered o r.0 r.1 r.2
      go false o f = other o f

  -- nothing resolves a goal without atoms
  pub no_step_in : (past : List ℕ) (n k : ℕ) (bs : List Binding) (h : Goal) → resolve_in p is_open w past (record { atoms = []; fresh = n }) k ≡ Some (bs, h) → ⊥
  no_step_in past n k bs h e = no_step_without_atoms p (record { atoms = []; fresh = n }) k bs h refl e

module _ (p : Listing) (w : World) where
  -- where nothing is open, each step is one of the program
  pub same_step : (past : List ℕ) (g : Goal) (k : ℕ) → resolve_in p (λ _. false) w past g k ≡ resolve p g k
  same_step past g k = go g.atoms
    where
      go : (xs : List Atom) → (if begins_open (λ _. false) xs then resolve_open w past g.atoms g.fresh k else resolve p g k) ≡ resolve p g k
      go [] = refl
      go (x ∷ xs) = refl

  pub to_world : (past : List ℕ) (g : Goal) (ks : List ℕ) → IsDerivation p g ks → IsDerivationAfter p (λ _. false) w past g ks
  to_world past g [] d = tt
  to_world past g (k ∷ ks) d = (d.0, d.1, same_step past g k ∙ d.2, to_world (past ++ k ∷ []) d.1 ks d.3)

  pub from_world : (past : List ℕ) (g : Goal) (ks : List ℕ) → IsDerivationAfter p (λ _. false) w past g ks → IsDerivation p g ks
  from_world past g [] d = tt
  from_world past g (k ∷ ks) d = (d.0, d.1, sym (same_step past g k) ∙ d.2, from_world (past ++ k ∷ []) d.1 ks d.3)

  pub same_bounded : (g : Goal) → BoundedIn p (λ _. false) w g ↔ Bounded p g
  same_bounded g = (λ b. (b.0, λ ks d. b.1 ks (to_world [] g ks d)), λ b. (b.0, λ ks d. b.1 ks (from_world [] g ks d)))
