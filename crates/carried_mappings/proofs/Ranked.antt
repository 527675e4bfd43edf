-- The component of a predicate, and the members of a component.
use Rattle.std.proofs.Common.{◌≡◌, ℕ, zero, suc, ◌<◌, ◌==◌, ◌⊎◌, Bool, true, false, inl, inr, List, [], ◌∷◌, length, slice_get, slice_index_or, None, Some, refl, ap, sym, ◌∙◌, arith, eq-eqb, eqb-true}
use Rattle.std.specs.Prelude.{Contains}
use Rattle.call_components.specs.Partition.{Partition, AreComponents, IsIn}
use Rattle.cti_terms.specs.Listing.{Listing}
use Rattle.cti_terms.specs.declared.predicates.Pred.{Pred}
use Rattle.linear_rows.specs.Members.{In}
use Rattle.termination_model.specs.chains.Chain.{component_of, is_number}
use Rattle.termination_model.specs.mappings.ComponentViews.{members_in, positions_in, rank_in}
use Rattle.termination_model.specs.mappings.Ready.{Apart, arity_in}
use Rattle.termination_model.specs.mappings.Supports.{AreDistinct}
use Rattle.termination_model.proofs.Lists.{indexed, place_below, there}
use Rattle.termination_model.proofs.Readiness.{positions_are_distinct}
use Rattle.level_systems.specs.Subsequences.{AreOnce}
use Rattle.level_dual.proofs.SearchLaws.{increasing_apart}

-- ---- the component of a predicate, and what is tested of it
or_cases : (xs : List ℕ) (q d : ℕ) → (slice_get xs q ≡ Some (slice_index_or xs q d)) ⊎ ((slice_get xs q ≡ None) × (slice_index_or xs q d ≡ d))
or_cases [] q d = inr (refl, refl)
or_cases (x ∷ xs) zero d = inl refl
or_cases (x ∷ xs) (suc q) d = or_cases xs q d

module _ (comps : Partition) (c : ℕ) (inner : c < length comps.members) where
  pub ranked_in : (q : ℕ) → (rank_in comps q == c) ≡ true → IsIn comps c q
  ranked_in q e = elim (or_cases comps.of q (length comps.members)) [
    | inl some ↦ some ∙ ap Some (eqb-true (rank_in comps q) c e)
    | inr none ↦ let same : rank_in comps q ≡ c = eqb-true (rank_in comps q) c e in let past = none.1 in absurd (omega arith)
  ]

  pub in_ranked : (q : ℕ) → IsIn comps c q → (rank_in comps q == c) ≡ true
  in_ranked q e = eq-eqb (rank_in comps q) c (indexed comps.of q c (length comps.members) e)

  pub out_ranked : (q : ℕ) → (IsIn comps c q → ⊥) → (rank_in comps q == c) ≡ false
  out_ranked q out = go (rank_in comps q == c) refl
    where
      go : (t : Bool) → (rank_in comps q == c) ≡ t → t ≡ false
      go true e = absurd (out (ranked_in q e))
      go false e = refl

  pub tests_same : (q : ℕ) → is_number c (component_of comps q) ≡ (rank_in comps q == c)
  tests_same q = elim (or_cases comps.of q (length comps.members)) [
    | inl some ↦ ap (is_number c) some
    | inr none ↦ ap (is_number c) none.0 ∙ sym (out_ranked q (λ here. let no_one : None ≡ Some c = sym none.0 ∙ here in cc))
  ]

pub of_contains : (xs : List ℕ) (x : ℕ) → Contains xs x → In x xs
of_contains [] x (i, l, e) = absurd (omega arith)
of_contains (z ∷ xs) x (zero, l, e) = inl e
of_contains (z ∷ xs) x (suc i, l, e) = inr (of_contains xs x (i, omega arith, e))

pub to_contains : (xs : List ℕ) (x : ℕ) → In x xs → Contains xs x
to_contains [] x h = absurd h
to_contains (y ∷ xs) x (inl e) = (0, omega arith, e)
to_contains (y ∷ xs) x (inr h) = let more = to_contains xs x h in (suc more.0, omega (arith, more.1), more.2)

module _ (p : Listing) (comps : Partition) (are : AreComponents p comps) (c : ℕ) (inner : c < length comps.members) where
  members_at : slice_get comps.members c ≡ Some (members_in comps c)
  members_at = there comps.members c [] inner

  pub member_in : (q : ℕ) → IsIn comps c q → In q (members_in comps c)
  member_in q i = of_contains (members_in comps c) q ((are.members c (members_in comps c) members_at q).1 i)

  pub in_member : (q : ℕ) → In q (members_in comps c) → IsIn comps c q
  in_member q i = (are.members c (members_in comps c) members_at q).0 (to_contains (members_in comps c) q i)

  pub pred_of : (q : ℕ) → IsIn comps c q → (x : Pred) × (slice_get p.preds q ≡ Some x)
  pred_of q i =
      let below = place_below comps.of q c i in
      let each = are.each in
      let none : Pred = record { name = record { 0 = 0 }; arity = 0 } in
      (slice_index_or p.preds q none, there p.preds q none (omega arith))

  members_apart : Apart (members_in comps c)
  members_apart = increasing_apart (members_in comps c) (are.ascending c (members_in comps c) members_at).0

  -- members and positions stand once
  pub members_once : AreOnce (members_in comps c)
  members_once = go (members_in comps c) members_apart
    where
      go : (qs : List ℕ) → Apart qs → AreOnce qs
      go [] a = tt
      go (q ∷ qs) a = (a.0, go qs a.1)

  pub positions_distinct : AreDistinct (positions_in p comps c)
  positions_distinct = positions_are_distinct (arity_in p) (members_in comps c) members_apart
