-- The pairs of a component are the calls of its view.
use Rattle.std.proofs.Common.{◌≡◌, ℕ, zero, suc, ◌+◌, ◌-◌, ◌==◌, ℤ, Bool, true, false, if◌then◌else◌, List, [], ◌∷◌, ◌++◌, map, filter, take, slice_get, Some, refl, ap, sym, subst, ◌∙◌, arith}
use Rattle.cti_terms.specs.Listing.{Listing}
use Rattle.cti_terms.specs.Tree.{Tree}
use Rattle.cti_terms.specs.declared.atom_list.Atom.{Atom}
use Rattle.cti_terms.specs.declared.clauses.Clause.{Clause}
use Rattle.call_components.specs.Partition.{Partition}
use Rattle.number_tests.specs.Refuting.{atom_or_none, clause_or_none}
use Rattle.termination_model.specs.claims.Claims.{Claims}
use Rattle.termination_model.specs.mappings.ComponentViews.{component_view, rank_in, size_claims}
use Rattle.termination_model.specs.mappings.OwnCalls.{OwnCall as Recalled, own_call, own_calls, own_calls_from}
use Rattle.termination_model.specs.mappings.Ready.{itself}
use Rattle.termination_model.specs.sizes.Systems.{row_over, system}
use Rattle.termination_model.specs.mappings.View.{Call, Lower, Member, Place, Rule, rule_of, system_of, upward_union}
use Rattle.termination_model.specs.mappings.View as view
use Rattle.level_systems.specs.Held.{recalled_at}
use Rattle.level_systems.specs.Pairs.{call_at, calls_from, clause_at, pairs_from, pairs_of}

pub map_append : {X Y : Type 0} (f : X → Y) (xs ys : List X) → map f (xs ++ ys) ≡ map f xs ++ map f ys
map_append f [] ys = refl
map_append f (x ∷ xs) ys = ap (λ s. f x ∷ s) (map_append f xs ys)

pub take_map : {X Y : Type 0} (f : X → Y) (n : ℕ) (xs : List X) → take n (map f xs) ≡ map f (take n xs)
take_map f zero xs = refl
take_map f (suc n) [] = refl
take_map f (suc n) (x ∷ xs) = ap (λ s. f x ∷ s) (take_map f n xs)

module _ (expression : ℕ → Tree → List ℤ) (p : Listing) (comps : Partition) (rows : ℕ → List (List ℤ)) (c : ℕ) where
  abbrev claims : Claims
  claims = size_claims expression p comps rows

  abbrev re : ℕ × ℕ → Recalled
  re = recalled_at expression p rows comps c

  -- the size rows of calls of the view are those of atoms
  pub system_same : (n : ℕ) (bs : List Atom) → system_of expression n (map (view.call_of claims c itself) bs) ≡ system expression rows n bs
  system_same n [] = refl
  system_same n (b ∷ bs) = ap (λ s. map (row_over expression n b.args) (rows b.pred.0) ++ s) (system_same n bs)

  one_same : (k j : ℕ) (a : Atom) → call_at p k (suc j) ≡ a → (b : Bool)
      → own_call (rule_of claims c itself (clause_at p k)) j (view.call_of claims c itself a) (if b then Member (itself a.pred.0) else Lower (upward_union claims a.pred.0))
      ≡ map re (if b then (k, suc j) ∷ [] else [])
  one_same k j a e true =
      let place : j ≡ suc j - 1 = omega arith in
      λ i. record {
        rule = rule_of claims c itself (clause_at p k);
        place = place i;
        call = view.call_of claims c itself (sym e i);
        member = (sym e i).pred.0;
      } ∷ []
  one_same k j a e false = refl

  calls_same : (k j : ℕ) (bs : List Atom) → ((i : ℕ) (b : Atom) → slice_get bs i ≡ Some b → call_at p k (suc (j + i)) ≡ b)
      → own_calls_from (rule_of claims c itself (clause_at p k)) j (map (view.call_of claims c itself) bs) ≡ map re (calls_from comps c k j bs)
  calls_same k j [] h = refl
  calls_same k j (b ∷ bs) h =
      let zero_more : suc (j + 0) ≡ suc j = omega arith in
      let here : call_at p k (suc j) ≡ b = subst (λ (n : ℕ). call_at p k n ≡ b) zero_more (h 0 b refl) in
      let one = one_same k j b here (rank_in comps b.pred.0 == c) in
      let rest = calls_same k (suc j) bs (λ i x e. let more : suc (j + suc i) ≡ suc (suc j + i) = omega arith in subst (λ (n : ℕ). call_at p k n ≡ x) more (h (suc i) x e)) in
      (λ i. one i ++ rest i) ∙ sym (map_append re (if rank_in comps b.pred.0 == c then (k, suc j) ∷ [] else []) (calls_from comps c k (suc j) bs))

  clause_same : (k : ℕ) (x : Clause) → clause_at p k ≡ x → own_calls_from (rule_of claims c itself x) 0 (map (view.call_of claims c itself) x.body) ≡ map re (calls_from comps c k 0 x.body)
  clause_same k x e =
      subst (λ (y : Clause). own_calls_from (rule_of claims c itself y) 0 (map (view.call_of claims c itself) y.body) ≡ map re (calls_from comps c k 0 y.body)) e
      (calls_same k 0 (clause_at p k).body (λ i b at. let same : suc (0 + i) - 1 ≡ i = omega arith in ap (λ n. atom_or_none (slice_get (clause_at p k).body n)) same ∙ ap atom_or_none at))

  clauses_same : (k : ℕ) (xs : List Clause) → ((i : ℕ) (x : Clause) → slice_get xs i ≡ Some x → clause_at p (suc (k + i)) ≡ x)
      → own_calls (map (rule_of claims c itself) (filter (λ (x : Clause). rank_in comps x.head.pred.0 == c) xs)) ≡ map re (pairs_from comps c k xs)
  clauses_same k [] h = refl
  clauses_same k (x ∷ xs) h =
      go (rank_in comps x.head.pred.0 == c) (clauses_same (suc k) xs (λ i y e. let more : suc (k + suc i) ≡ suc (suc k + i) = omega arith in subst (λ (n : ℕ). clause_at p n ≡ y) more (h (suc i) y e)))
    where
      here : clause_at p (suc k) ≡ x
      here = let zero_more : suc (k + 0) ≡ suc k = omega arith in subst (λ (n : ℕ). clause_at p n ≡ x) zero_more (h 0 x refl)

      go : (b : Bool) → own_calls (map (rule_of claims c itself) (filter (λ (x : Clause). rank_in comps x.head.pred.0 == c) xs)) ≡ map re (pairs_from comps c (suc k) xs) → own_calls (map (rule_of claims c itself) (if b then x ∷ filter (λ (x : Clause). rank_in comps x.head.pred.0 == c) xs else filter (λ (x : Clause). rank_in comps x.head.pred.0 == c) xs))
          ≡ map re ((if b then calls_from comps c (suc k) 0 x.body else []) ++ pairs_from comps c (suc k) xs)
      go true rest =
          let one = clause_same (suc k) x here in
          (λ i. one i ++ rest i) ∙ sym (map_append re (calls_from comps c (suc k) 0 x.body) (pairs_from comps c (suc k) xs))
      go false rest = rest

  -- the calls of the view, by pairs
  pub calls_are_pairs : own_calls (component_view expression p comps rows c) ≡ map re (pairs_of p comps c)
  calls_are_pairs = clauses_same 0 p.clauses (λ i x at. let same : suc (0 + i) - 1 ≡ i = omega arith in ap (λ n. clause_or_none (slice_get p.clauses n)) same ∙ ap clause_or_none at)
