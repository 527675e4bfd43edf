-- The set of all positions is blown where no support is had and no refutation is accepted.
use Rattle.std.proofs.Common.{◌≡◌, ℕ, zero, suc, ◌+◌, ◌==◌, ℤ, pos, Bool, true, false, if◌then◌else◌, List, [], ◌∷◌, ◌++◌, map, filter, take, drop, length, slice_get, slice_index_or, Some, inl, inr, refl, ap, sym, subst, ◌∙◌, arith, eqb-true}
use Rattle.std.specs.Prelude.{unsigned_abs}
use Rattle.std.specs.List.{list_any}
use Rattle.std.proofs.lemmas.List.{length-map}
use Rattle.call_components.specs.Partition.{Partition}
use Rattle.cti_terms.specs.Listing.{Listing}
use Rattle.cti_terms.specs.Tree.{Tree}
use Rattle.cti_terms.specs.declared.clauses.Clause.{Clause}
use Rattle.linear_rows.proofs.Founds.{found_holds}
use Rattle.linear_rows.proofs.Members.{of-filter, of-map}
use Rattle.linear_rows.proofs.Refutes.{refuted_refutes}
use Rattle.linear_rows.specs.Members.{In}
use Rattle.linear_rows.specs.Proves.{Refutes}
use Rattle.linear_rows.specs.Rows.{AllHold, IsPoint}
use Rattle.linear_rows.specs.Solving.{Solution, solution}
use Rattle.linear_rows.specs.Solving.Solution.{Blown, Found, Refuted}
use Rattle.linear_rows.specs.Step.{columns}
use Rattle.termination_model.proofs.AllPositionsLaws.{all_are_picked}
use Rattle.termination_model.specs.mappings.BlownSupports.{CheckFits, IsBlownAt, in_order, live_calls, same_position, support_solution}
use Rattle.termination_model.specs.mappings.BlownSupports.IsBlownAt.{refutation, solving}
use Rattle.termination_model.specs.mappings.ComponentViews.{HasSupportIn, component_view, members_in, positions_in, rank_in, size_claims}
use Rattle.termination_model.specs.mappings.Excluding.{pairs_at}
use Rattle.termination_model.specs.mappings.OwnCalls.{OwnCall as Recalled, Position, first_rules, members_of}
use Rattle.termination_model.specs.mappings.Ready.{arity_in, itself, positions_by}
use Rattle.termination_model.specs.mappings.SupportSystem.{mapping_at, support_rows, unknowns}
use Rattle.termination_model.specs.mappings.Supports.{picked_from, support_from}
use Rattle.termination_model.specs.mappings.View.{Rule, rule_of}
use Rattle.level_systems.specs.Held.{spelled}
use Rattle.level_systems.specs.Recalled.{count_of}
use Rattle.level_systems.specs.Refuted.{IsInFit, lives_of, solution_of}
use Rattle.level_systems.specs.Searched.{IsComponent}
use Rattle.level_systems.specs.declared.component.Component.{Component}
use Rattle.level_dual.proofs.LiveCalls.{blown_by_lives}
use Rattle.level_dual.proofs.PartLaws.{are_naturals}
use Rattle.level_dual.proofs.SearchLaws.{at_picked, counts, laws, length_drop, length_take, lives, mine, point_decreases, split_values}
use Rattle.level_systems.proofs.SoundLaws.{inside_member}
use Rattle.level_dual.proofs.SupportLaws.{in_ordered, position_of, pred_of}
use Rattle.level_dual.proofs.SystemWidths.{support_wide}

-- ---- members of a view are of the component
first_case : (b : Bool) (k x : Rule) (skipped kept rest : List Rule) → In k (if b then skipped else x ∷ kept) → (In k skipped → In k rest) → (In k kept → In k rest) → In k (x ∷ rest)
first_case true k x skipped kept rest i f g = inr (f i)
first_case false k x skipped kept rest (inl e) f g = inl e
first_case false k x skipped kept rest (inr i) f g = inr (g i)

first_in : (seen : List ℕ) (ks : List Rule) (k : Rule) → In k (first_rules seen ks) → In k ks
first_in seen [] k i = absurd i
first_in seen (x ∷ ks) k i =
    first_case (list_any (λ q. q == x.member) seen) k x (first_rules seen ks) (first_rules (x.member ∷ seen) ks) ks i (first_in seen ks k) (first_in (x.member ∷ seen) ks k)

index_some : {X : Type 0} (xs : List X) (i : ℕ) (d x : X) → slice_index_or xs i d ≡ x → (d ≡ x → ⊥) → slice_get xs i ≡ Some x
index_some [] i d x e n = absurd (n e)
index_some (y ∷ xs) zero d x e n = ap (λ z. Some z) e
index_some (y ∷ xs) (suc i) d x e n = index_some xs i d x e n

filter_kept : {X : Type 0} (f : X → Bool) (x : X) (xs : List X) (b : Bool) → b ≡ true → filter f xs ≡ xs → (if b then x ∷ filter f xs else filter f xs) ≡ x ∷ xs
filter_kept f x xs true e rest = ap (λ ys. x ∷ ys) rest
filter_kept f x xs false e rest = cc

-- what keeps all of a list keeps it
filter_all : {X : Type 0} (f : X → Bool) (xs : List X) → ((x : X) → In x xs → f x ≡ true) → filter f xs ≡ xs
filter_all f [] h = refl
filter_all f (x ∷ xs) h = filter_kept f x xs (f x) (h x (inl refl)) (filter_all f xs (λ y i. h y (inr i)))

module _ (size : (ℕ → ℕ) → Tree → ℕ) (truth : (ℕ → Bool) → Tree → Bool) (expression : ℕ → Tree → List ℤ) (p : Listing) (comps : Partition) (rows : ℕ → List (List ℤ)) (c : ℕ) (x : Component)
    (h : IsComponent size truth expression p comps rows c x) where
  abbrev view : List Rule
  view = component_view expression p comps rows c

  view_inside : (q : ℕ) → In q (members_of view) → In q (members_in comps c)
  view_inside q i =
      let (rule, first, member) = of-map (λ (k : Rule). k.member) (first_rules [] view) q i in
      let (clause, kept, is) = of-map (rule_of (size_claims expression p comps rows) c itself) (filter (λ (k : Clause). rank_in comps k.head.pred.0 == c) p.clauses) rule (first_in [] view rule first) in
      let rank = eqb-true (rank_in comps clause.head.pred.0) c (of-filter (λ (k : Clause). rank_in comps k.head.pred.0 == c) p.clauses clause kept).1 in
      let same : clause.head.pred.0 ≡ q = ap (λ (k : Rule). k.member) is ∙ member in
      let inner = h.inner in
      inside_member expression p h.program comps h.components rows c q
      (index_some comps.of q (length comps.members) c (ap (rank_in comps) (sym same) ∙ rank) (λ (e : length comps.members ≡ c). omega (arith, inner, e)))

  abbrev all : List Position
  all = picked_from 1 (positions_in p comps c) (columns 1 (length x.positions.items))

  all_same : all ≡ positions_in p comps c
  all_same =
      let many : length x.positions.items ≡ length (positions_in p comps c) = sym (length-map x.positions.items spelled) ∙ ap length h.positions in
      ap (λ (n : ℕ). picked_from 1 (positions_in p comps c) (columns 1 n)) many ∙ all_are_picked (positions_in p comps c)

  -- all positions in the order of the clauses
  pub order_same : in_order expression view (arity_in p) all ≡ map spelled x.order.items
  order_same =
      let order = positions_by (arity_in p) (members_of view) in
      filter_all (λ r. list_any (same_position r) all) order (λ r i.
      let (member, argument) = pred_of (arity_in p) (members_of view) r i in
      let there = position_of (arity_in p) (members_in comps c) r.0 r.1 (view_inside r.0 member) argument in
      (of-filter (λ k. list_any (same_position k) all) order r (in_ordered order all r i (subst (In r) (sym all_same) there))).1)
      ∙ ap (positions_by (arity_in p)) (sym h.by_clauses) ∙ sym h.order

  abbrev ps : List Position
  ps = map spelled x.order.items

  abbrev ms : List ℕ
  ms = mine size truth expression p comps rows c x h

  abbrev ls : List Recalled
  ls = lives size truth expression p comps rows c x h

  -- a point gives a mapping that decreases
  point_has : (t : ℤ) (w : List ℤ) → IsPoint (unknowns expression ps ms ls) (support_rows expression ps ms ls) t w → ((s : List ℕ) → HasSupportIn expression p comps rows c s → ⊥) → ⊥
  point_has t w point none =
      let a = length ps in
      let b = length ms in
      let values = point.values in
      let cs = take a values in
      let os = take b (drop a values) in
      let us = drop b (drop a values) in
      let long : length values ≡ a + (b + count_of x.calls.items) = point.long ∙ ap (λ (n : ℕ). a + (b + n)) (counts expression p comps rows c ps ms x.calls.items h.held) in
      let rest : length (drop a values) ≡ b + count_of x.calls.items = length_drop a values (b + count_of x.calls.items) long in
      let whole : cs ++ (os ++ us) ≡ values = ap (λ (z : List ℕ). cs ++ z) (split_values b (drop a values)) ∙ split_values a values in
      let numbers = columns 1 (length x.positions.items) in
      let is : ps ≡ filter (λ r. list_any (same_position r) all) (positions_by (arity_in p) ms) =
      sym order_same ∙ ap (λ (qs : List ℕ). filter (λ r. list_any (same_position r) all) (positions_by (arity_in p) qs)) (sym h.by_clauses) in
      let l = mapping_at (arity_in p) ps ms cs os in
      let falls = point_decreases size truth expression p comps rows c x h numbers ps is point.scale cs os us point.some (length_take a values (omega (arith, long))) (length_take b (drop a values) (omega (arith, rest)))
      (length_drop b (drop a values) (count_of x.calls.items) rest) (subst (λ (z : List ℕ). AllHold (support_rows expression ps ms ls) point.scale z) (sym whole) point.hold) in
      let found = (laws size truth expression p comps rows c x h).found numbers l (at_picked size truth expression p comps rows c x h numbers ps is cs os) falls in
      none (support_from 1 (positions_in p comps c) l) found.1

  module _ (none : (s : List ℕ) → HasSupportIn expression p comps rows c s → ⊥) (refused : IsInFit expression p comps rows c x → ⊥) (same : live_calls expression view (arity_in p) ≡ ls) where
    solved_same : support_solution expression view (arity_in p) all ≡ solution_of expression x (lives_of expression p comps rows c x)
    solved_same = λ i. solution (unknowns expression (order_same i) (sym h.by_clauses i) (same i)) (support_rows expression (order_same i) (sym h.by_clauses i) (same i))

    by_solution : (s : Solution) → support_solution expression view (arity_in p) all ≡ s → IsBlownAt expression view (arity_in p) all
    by_solution (Blown step wide) e = solving step wide e
    by_solution (Found t w) e = absurd (point_has t w (found_holds (unknowns expression ps ms ls) (support_rows expression ps ms ls) t w (support_wide expression ps ms ls) (sym solved_same ∙ e)) none)
    by_solution (Refuted ws) e =
        let refutes : Refutes (unknowns expression ps ms ls) (support_rows expression ps ms ls) ws = refuted_refutes (unknowns expression ps ms ls) (support_rows expression ps ms ls) ws (support_wide expression ps ms ls) (sym solved_same ∙ e) in
        let natural : ws ≡ map pos (map unsigned_abs ws) = are_naturals ws refutes.natural in
        let told = e ∙ ap (λ (zs : List ℤ). Refuted zs) natural in
        refutation (map unsigned_abs ws) told (λ fits. refused (record {
          numbers = map unsigned_abs ws;
          live = same;
          refuted = sym solved_same ∙ told;
          fits = subst (λ (os : List Recalled). CheckFits expression view (arity_in p) (pairs_at os (map unsigned_abs ws))) same fits;
        }))

  pub full_blown : ((s : List ℕ) → HasSupportIn expression p comps rows c s → ⊥) → (IsInFit expression p comps rows c x → ⊥) → IsBlownAt expression view (arity_in p) all
  full_blown none refused =
      blown_by_lives expression p comps rows c x.calls.items h.pairs h.held all (λ same. by_solution none refused same (support_solution expression view (arity_in p) all) refl)
