-- Multipliers that refute the system of a set of positions exclude its mappings.
use Rattle.std.proofs.Common.{◌≡◌, ℕ, zero, suc, ◌+◌, ℤ, pos, Bool, List, [], ◌∷◌, map, filter, drop, length, slice_get, Option, None, Some, inl, inr, refl, ap, sym, subst, ◌∙◌, arith}
use Rattle.std.specs.Prelude.{unsigned_abs}
use Rattle.std.specs.List.{AllByRecursion, list_any}
use Rattle.std.proofs.lemmas.List.{length-append, length-map}
use Rattle.cti_terms.specs.Listing.{Listing}
use Rattle.cti_terms.specs.Tree.{Tree}
use Rattle.call_components.specs.Numbers.{number_of}
use Rattle.call_components.specs.Partition.{IsIn, Partition}
use Rattle.linear_rows.specs.Members.{In}
use Rattle.linear_rows.specs.Proves.{Refutes}
use Rattle.linear_rows.specs.Step.{columns}
use Rattle.termination_model.specs.mappings.BlownSupports.{same_position}
use Rattle.termination_model.specs.mappings.ComponentViews.{HasSupportIn, component_view, members_in, positions_in}
use Rattle.termination_model.specs.mappings.Excluding.{IsOfMembers, number_count, pairs_at}
use Rattle.termination_model.specs.grounds.Minimal.{IsExcluded}
use Rattle.termination_model.specs.mappings.OwnCalls.{OwnCall as Recalled, Position, own_calls, rows_before}
use Rattle.termination_model.specs.mappings.Ready.{arity_in, positions_by}
use Rattle.termination_model.specs.mappings.SupportSystem.{call_row, call_rows, row_count, rows_from, support_rows, unknowns}
use Rattle.termination_model.specs.mappings.Supports.{picked_from}
use Rattle.termination_model.proofs.Having.{picked_in}
use Rattle.termination_model.proofs.Lists.{indexed}
use Rattle.termination_model.proofs.Readiness.{views_are_ready}
use Rattle.termination_model.proofs.Refuting.{multipliers_refute}
use Rattle.level_systems.specs.Held.{IsHeld}
use Rattle.level_systems.specs.Recalled.{count_of}
use Rattle.level_systems.specs.Searched.{IsComponent}
use Rattle.level_systems.specs.declared.component.Component.{Component}
use Rattle.level_systems.specs.declared.own_call.OwnCall.{OwnCall}
use Rattle.level_systems.proofs.HeldCalls.{all_live, in_calls, lives_in, lives_own, re}
use Rattle.level_dual.proofs.MemberLaws.{all_members}
use Rattle.level_dual.proofs.PartLaws.{are_naturals}
use Rattle.level_systems.proofs.SoundLaws.{in_contains, no_place}
use Rattle.level_dual.proofs.SearchLaws.{counts, laws, lives}
use Rattle.level_dual.proofs.SupportLaws.{in_ordered, position_of, pred_of}

length_columns : (k n : ℕ) → length (columns k n) ≡ n
length_columns k zero = refl
length_columns k (suc n) = ap suc (length_columns (suc k) n)

-- one row for each call and column
pub rows_number : (expression : ℕ → Tree → List ℤ) (ps : List Position) (ms : List ℕ) (before : ℕ) (os : List Recalled) → length (rows_from expression ps ms before os) ≡ number_count os
rows_number expression ps ms before [] = refl
rows_number expression ps ms before (o ∷ os) =
    let first = length-map (columns 0 (suc o.rule.vars)) (call_row expression ps ms before (row_count expression ps ms os) o) in
    let rest = rows_number expression ps ms (before + length (rows_before expression o)) os in
    omega (arith, first, length_columns 0 (suc o.rule.vars), rest, length-append (call_rows expression ps ms before (row_count expression ps ms os) o) (rows_from expression ps ms (before + length (rows_before expression o)) os))

pub of_members : (ms : List ℕ) (os : List Recalled) (vs : List ℕ) → ((o : Recalled) → In o os → In o.rule.member ms × In o.member ms) → AllByRecursion (IsOfMembers ms) (pairs_at os vs)
of_members ms [] vs h = tt
of_members ms (o ∷ os) [] h = tt
of_members ms (o ∷ os) (t ∷ vs) h = (h o (inl refl), of_members ms os (drop o.rule.vars vs) (λ x i. h x (inr i)))

module _ (size : (ℕ → ℕ) → Tree → ℕ) (truth : (ℕ → Bool) → Tree → Bool) (expression : ℕ → Tree → List ℤ) (p : Listing) (comps : Partition) (rows : ℕ → List (List ℤ)) (c : ℕ) (x : Component)
    (h : IsComponent size truth expression p comps rows c x) where
  view_members : (q : ℕ) → IsIn comps c q → In q (map number_of x.by_clauses.items)
  view_members q i = subst (In q) (sym h.by_clauses) (all_members expression p comps rows c h.components h.recursive q i)

  -- a member by its list is of the component
  is_inside : (q : ℕ) → In q (members_in comps c) → IsIn comps c q
  is_inside q i = go (slice_get comps.members c) refl
    where
      go : (o : Option (List ℕ)) → slice_get comps.members c ≡ o → IsIn comps c q
      go None e = absurd (no_place comps.members c e h.inner)
      go (Some ms) e = (h.components.members c ms e q).0 (in_contains ms q (subst (In q) (indexed comps.members c ms [] e) i))

  pub callers : (o : Recalled) → In o (own_calls (component_view expression p comps rows c)) → In o.rule.member (map number_of x.by_clauses.items)
  callers o i = subst (In o.rule.member) (sym h.by_clauses) ((views_are_ready (component_view expression p comps rows c)).callers o i)

  pub callees : (owns : List OwnCall) → AllByRecursion (λ (own : OwnCall). IsIn comps c own.callee.0) owns → AllByRecursion (IsHeld expression p rows) owns → (o : Recalled) → In o (map (re expression p comps rows c) owns)
      → In o.member (map number_of x.by_clauses.items)
  callees [] inside held o i = absurd i
  callees (own ∷ owns) inside held o (inl e) =
      let first = held.0 in
      subst (λ (y : Recalled). In y.member (map number_of x.by_clauses.items)) e (subst (λ (q : ℕ). In q (map number_of x.by_clauses.items)) first.callee (view_members own.callee.0 inside.0))
  callees (own ∷ owns) inside held o (inr i) = callees owns inside.1 held.1 o i

  module _ (inside : AllByRecursion (λ (own : OwnCall). IsIn comps c own.callee.0) x.calls.items) (s : List ℕ) (at : List Position)
      (is : at ≡ filter (λ r. list_any (same_position r) (picked_from 1 (positions_in p comps c) s)) (positions_by (arity_in p) (map number_of x.by_clauses.items))) where
    within : (y : Position) → In y (picked_from 1 (positions_in p comps c) s) → In y at
    within y i =
        let there = picked_in (positions_in p comps c) 1 s y i in
        let (member, argument) = pred_of (arity_in p) (members_in comps c) y there in
        subst (In y) (sym is) (in_ordered (positions_by (arity_in p) (map number_of x.by_clauses.items)) (picked_from 1 (positions_in p comps c) s) y
        (position_of (arity_in p) (map number_of x.by_clauses.items) y.0 y.1 (view_members y.0 (is_inside y.0 member)) argument) i)

    pub set_excluded : (n : ℕ) (ms : List ℤ) → n ≡ length at + (length x.by_clauses.items + count_of x.calls.items) → Refutes n (support_rows expression at (map number_of x.by_clauses.items) (lives size truth expression p comps rows c x h)) ms
        → IsExcluded (HasSupportIn expression p comps rows c) s
    set_excluded n ms en refutes =
        let members = map number_of x.by_clauses.items in
        let ls = lives size truth expression p comps rows c x h in
        let vs = map unsigned_abs ms in
        let natural : ms ≡ map pos vs = are_naturals ms refutes.natural in
        let width : n ≡ unknowns expression at members ls =
        en ∙ (λ i. length at + (sym (length-map x.by_clauses.items number_of) i + sym (counts expression p comps rows c at members x.calls.items h.held) i)) in
        let long : length vs ≡ number_count ls = length-map ms unsigned_abs ∙ refutes.long ∙ rows_number expression at members 0 ls in
        let refuted : Refutes (unknowns expression at members ls) (support_rows expression at members ls) (map pos vs) =
        subst (λ (k : ℕ). Refutes k (support_rows expression at members ls) (map pos vs)) width (subst (Refutes n (support_rows expression at members ls)) natural refutes) in
        (laws size truth expression p comps rows c x h).excluded s at (pairs_at ls vs) within
        (of_members members ls vs (λ o i.
        let there = in_calls expression p comps rows c x.calls.items h.pairs h.held o i in
        (callers o there, callees x.calls.items inside h.held o (lives_in expression p comps rows c x.calls.items o i))))
        (multipliers_refute expression (component_view expression p comps rows c) at members ls vs (λ k t. h.norm.width k t) (lives_own expression p comps rows c x.calls.items h.pairs h.held)
        (all_live expression p comps rows c x.calls.items h.held) long refuted)
