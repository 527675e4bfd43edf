-- The pairs of a component, clause by clause and call by call.
use Rattle.std.proofs.Common.{◌≡◌, ℕ, zero, suc, ◌+◌, ◌==◌, ◌≤◌, Bool, true, false, if◌then◌else◌, List, [], ◌∷◌, ◌++◌, drop, length, slice_get, Some, inl, refl, ap, sym, subst, ◌∙◌, arith, eq-eqb, eqb-true}
use Rattle.cti_terms.specs.declared.atom_list.Atom.{Atom}
use Rattle.cti_terms.specs.declared.clauses.Clause.{Clause}
use Rattle.call_components.specs.Partition.{Partition}
use Rattle.linear_rows.specs.Members.{In}
use Rattle.linear_rows.proofs.Members.{in-left, in-right}
use Rattle.termination_model.proofs.Lists.{indexed}
use Rattle.termination_model.specs.mappings.ComponentViews.{rank_in}
use Rattle.level_systems.specs.Pairs.{calls_from, pairs_from}

pub drop_at : {X : Type 0} → (xs : List X) (i : ℕ) (x : X) → slice_get xs i ≡ Some x → drop i xs ≡ x ∷ drop (i + 1) xs
drop_at [] i x e = cc
drop_at (y ∷ xs) zero x e = let same : y ≡ x = cc in ap (λ z. z ∷ xs) same
drop_at (y ∷ xs) (suc i) x e = let more : suc i + 1 ≡ suc (i + 1) = omega arith in rw more (drop_at xs i x e)

pub drop_all : {X : Type 0} → (xs : List X) (i : ℕ) → length xs ≤ i → drop i xs ≡ []
drop_all [] zero le = refl
drop_all [] (suc i) le = refl
drop_all (x ∷ xs) zero le = absurd (omega arith)
drop_all (x ∷ xs) (suc i) le = drop_all xs i (omega arith)

pub unequal : (m n : ℕ) → (m ≡ n → ⊥) → (b : Bool) → (m == n) ≡ b → b ≡ false
unequal m n h true e = absurd (h (eqb-true m n e))
unequal m n h false e = refl

module _ (comps : Partition) (c : ℕ) where
  pub rank_is : (q r : ℕ) → slice_get comps.of q ≡ Some r → rank_in comps q ≡ r
  rank_is q r e = indexed comps.of q r (length comps.members) e

  pub is_own : (q r : ℕ) → slice_get comps.of q ≡ Some r → r ≡ c → (rank_in comps q == c) ≡ true
  is_own q r e s = eq-eqb (rank_in comps q) c (rank_is q r e ∙ s)

  pub is_other : (q r : ℕ) → slice_get comps.of q ≡ Some r → (r ≡ c → ⊥) → (rank_in comps q == c) ≡ false
  is_other q r e s = unequal (rank_in comps q) c (λ h. s (sym (rank_is q r e) ∙ h)) (rank_in comps q == c) refl

  pub call_skipped : (k j : ℕ) (b : Atom) (bs : List Atom) → (rank_in comps b.pred.0 == c) ≡ false → calls_from comps c k j (b ∷ bs) ≡ calls_from comps c k (j + 1) bs
  call_skipped k j b bs e =
      let more : suc j ≡ j + 1 = omega arith in
      (λ i. (if e i then (k, suc j) ∷ [] else []) ++ calls_from comps c k (suc j) bs) ∙ ap (λ n. calls_from comps c k n bs) more

  pub call_taken : (k j : ℕ) (b : Atom) (bs : List Atom) → (rank_in comps b.pred.0 == c) ≡ true → calls_from comps c k j (b ∷ bs) ≡ (k, j + 1) ∷ calls_from comps c k (j + 1) bs
  call_taken k j b bs e =
      let more : suc j ≡ j + 1 = omega arith in
      (λ i. (if e i then (k, suc j) ∷ [] else []) ++ calls_from comps c k (suc j) bs) ∙ ap (λ n. (k, n) ∷ calls_from comps c k n bs) more

  pub clause_taken : (k : ℕ) (x : Clause) (xs : List Clause) → (rank_in comps x.head.pred.0 == c) ≡ true
      → pairs_from comps c k (x ∷ xs) ≡ calls_from comps c (k + 1) 0 x.body ++ pairs_from comps c (k + 1) xs
  clause_taken k x xs e =
      let more : suc k ≡ k + 1 = omega arith in
      (λ i. (if e i then calls_from comps c (suc k) 0 x.body else []) ++ pairs_from comps c (suc k) xs) ∙ ap (λ n. calls_from comps c n 0 x.body ++ pairs_from comps c n xs) more

  -- a call of the component is among the pairs of its clause
  pub call_there : (k j i : ℕ) (b : Atom) (bs : List Atom) → slice_get bs i ≡ Some b → (rank_in comps b.pred.0 == c) ≡ true → In (k, j + i + 1) (calls_from comps c k j bs)
  call_there k j i b [] at e = cc
  call_there k j zero b (x ∷ bs) at e =
      let same : x ≡ b = cc in
      let own : (rank_in comps x.pred.0 == c) ≡ true = subst (λ (y : Atom). (rank_in comps y.pred.0 == c) ≡ true) (sym same) e in
      let n : j + 0 + 1 ≡ j + 1 = omega arith in
      rw n (subst (In (k, j + 1)) (sym (call_taken k j x bs own)) (inl refl))
  call_there k j (suc i) b (x ∷ bs) at e =
      let n : j + suc i + 1 ≡ suc j + i + 1 = omega arith in
      rw n (in-right (if rank_in comps x.pred.0 == c then (k, suc j) ∷ [] else []) (calls_from comps c k (suc j) bs) (k, suc j + i + 1) (call_there k (suc j) i b bs at e))

  -- and those of a clause are among all
  pub pair_there : (k i : ℕ) (x : Clause) (xs : List Clause) (pair : ℕ × ℕ) → slice_get xs i ≡ Some x → (rank_in comps x.head.pred.0 == c) ≡ true
      → In pair (calls_from comps c (k + i + 1) 0 x.body) → In pair (pairs_from comps c k xs)
  pair_there k i x [] pair at e h = cc
  pair_there k zero x (y ∷ xs) pair at e h =
      let same : y ≡ x = cc in
      let own : (rank_in comps y.head.pred.0 == c) ≡ true = subst (λ (z : Clause). (rank_in comps z.head.pred.0 == c) ≡ true) (sym same) e in
      let n : k + 0 + 1 ≡ k + 1 = omega arith in
      let here : In pair (calls_from comps c (k + 1) 0 y.body) = subst (λ (z : Clause). In pair (calls_from comps c (k + 1) 0 z.body)) (sym same) (subst (λ (m : ℕ). In pair (calls_from comps c m 0 x.body)) n h) in
      subst (In pair) (sym (clause_taken k y xs own)) (in-left (calls_from comps c (k + 1) 0 y.body) (pairs_from comps c (k + 1) xs) pair here)
  pair_there k (suc i) x (y ∷ xs) pair at e h =
      let n : k + suc i + 1 ≡ suc k + i + 1 = omega arith in
      in-right (if rank_in comps y.head.pred.0 == c then calls_from comps c (suc k) 0 y.body else []) (pairs_from comps c (suc k) xs) pair
      (pair_there (suc k) i x xs pair at e (subst (λ (m : ℕ). In pair (calls_from comps c m 0 x.body)) n h))
