-- The members of a recursive component have clauses, and so are the members of its view.
use Rattle.std.proofs.Common.{◌≡◌, ℕ, ℤ, ◌==◌, true, List, [], ◌∷◌, filter, length, slice_get, Some, Any, inl, inr, refl, ap, subst, ◌∙◌, arith, eq-eqb}
use Rattle.cti_terms.specs.Listing.{Listing}
use Rattle.cti_terms.specs.Tree.{Tree}
use Rattle.cti_terms.specs.declared.clauses.Clause.{Clause}
use Rattle.call_components.specs.Calls.{Calls, Reaches}
use Rattle.call_components.specs.Calls.Reaches.{itself as here, onward}
use Rattle.call_components.specs.Partition.{AreComponents, IsIn, Partition}
use Rattle.call_components.proofs.Lists.{any_cases}
use Rattle.linear_rows.specs.Members.{In}
use Rattle.linear_rows.proofs.Members.{in-filter, in-map}
use Rattle.termination_model.specs.claims.Claims.{SomeOf}
use Rattle.termination_model.specs.mappings.ComponentViews.{component_view, rank_in, size_claims}
use Rattle.termination_model.specs.mappings.OwnCalls.{members_of}
use Rattle.termination_model.specs.mappings.Ready.{itself}
use Rattle.termination_model.specs.mappings.View.{Rule, rule_of}
use Rattle.termination_model.proofs.Lists.{indexed}
use Rattle.termination_model.proofs.Readiness.{first_there}

head_has : (a : ℕ) (P : Clause → Type 0) (ks : List Clause) → Any (λ (k : Clause). (k.head.pred.0 ≡ a) × P k) ks → (k : Clause) × In k ks × (k.head.pred.0 ≡ a)
head_has a P [] h = absurd (omega (arith, h.2))
head_has a P (k ∷ ks) h = elim (any_cases (λ (k : Clause). (k.head.pred.0 ≡ a) × P k) k ks h) [
  | inl one ↦ (k, inl refl, one.0)
  | inr later ↦ let r = head_has a P ks later in (r.0, inr r.1, r.2)
]

in_some : (q : ℕ) (ks : List Rule) (k : Rule) → In k ks → k.member ≡ q → SomeOf (λ (x : Rule). x.member ≡ q) ks
in_some q [] k h e = h
in_some q (x ∷ ks) k (inl s) e = inl (ap (λ (y : Rule). y.member) s ∙ e)
in_some q (x ∷ ks) k (inr h) e = inr (in_some q ks k h e)

module _ (expression : ℕ → Tree → List ℤ) (p : Listing) (comps : Partition) (rows : ℕ → List (List ℤ)) (c : ℕ) (components : AreComponents p comps) where
  -- a clause of the component gives a member of its view
  member_of : (k : Clause) → In k p.clauses → rank_in comps k.head.pred.0 ≡ c → In k.head.pred.0 (members_of (component_view expression p comps rows c))
  member_of k h e =
      let claims = size_claims expression p comps rows in
      let kept = in-filter (λ (k : Clause). rank_in comps k.head.pred.0 == c) p.clauses k (eq-eqb (rank_in comps k.head.pred.0) c e) h in
      let rule = in-map (rule_of claims c itself) (filter (λ (k : Clause). rank_in comps k.head.pred.0 == c) p.clauses) k kept in
      elim (first_there [] (component_view expression p comps rows c) k.head.pred.0 (in_some k.head.pred.0 (component_view expression p comps rows c) (rule_of claims c itself k) rule refl)) [ inl none ↦ absurd none | inr there ↦ there ]

  -- what reaches a caller has a clause
  reaches_has : (m a b : ℕ) → Reaches (Calls p) m a → Calls p a b → (x : Clause) × In x p.clauses × (x.head.pred.0 ≡ m)
  reaches_has m a b here calls = head_has m _ p.clauses calls
  reaches_has m a b (onward calls more) last = head_has m _ p.clauses calls

  pub all_members : slice_get comps.recursive c ≡ Some true → (q : ℕ) → IsIn comps c q → In q (members_of (component_view expression p comps rows c))
  all_members recursive q inside =
      let (a, b, ia, ib, calls) = (components.recursive c true recursive).0 refl in
      let reaches = (components.together q a c c inside ia).0 refl in
      let found = reaches_has q a b reaches.0 calls in
      let rank : rank_in comps q ≡ c = indexed comps.of q c (length comps.members) inside in
      subst (λ (x : ℕ). In x (members_of (component_view expression p comps rows c))) found.2 (member_of found.0 found.1 (ap (rank_in comps) found.2 ∙ rank))
