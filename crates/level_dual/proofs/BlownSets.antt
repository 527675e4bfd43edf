-- A set that the search gives up is blown.
use Rattle.std.proofs.Common.{◌≡◌, ℕ, ◌+◌, ◌-◌, ℤ, pos, Bool, true, List, ◌++◌, map, filter, take, drop, length, inl, inr, ap, sym, subst, ◌∙◌, arith}
use Rattle.std.specs.List.{AllByRecursion, list_any}
use Rattle.std.proofs.lemmas.List.{length-map}
use Rattle.cti_terms.specs.Listing.{Listing}
use Rattle.cti_terms.specs.Tree.{Tree}
use Rattle.call_components.specs.Numbers.{number_of}
use Rattle.call_components.specs.Partition.{Partition}
use Rattle.linear_rows.specs.Irredundant.{TestIsBlown}
use Rattle.linear_rows.specs.Members.{In}
use Rattle.linear_rows.specs.Rows.{AllHold, IsPoint}
use Rattle.linear_rows.specs.Showing.{bottom_row}
use Rattle.linear_rows.specs.Solving.{solution}
use Rattle.linear_rows.specs.Solving.Solution.{Blown, Found}
use Rattle.linear_rows.proofs.Members.{in-map}
use Rattle.termination_model.specs.mappings.BlownSupports.{FallsFit, TargetsFit, in_order, live_calls, same_position, support_solution}
use Rattle.termination_model.specs.mappings.BlownSupports.IsBlownAt.{mapping, solving, undecided, unfit}
use Rattle.termination_model.specs.claims.Claims.{Mapping as PlainMapping}
use Rattle.termination_model.specs.mappings.ComponentViews.{component_view, positions_in, size_claims}
use Rattle.termination_model.specs.mappings.OwnCalls.{OwnCall as Recalled, Position as Place, members_of, own_calls, rows_before}
use Rattle.termination_model.specs.mappings.Ready.{arity_in, itself, positions_by}
use Rattle.termination_model.specs.mappings.SupportLaws.{AreFalls}
use Rattle.termination_model.specs.mappings.SupportSystem.{mapping_at, support_rows, unknowns}
use Rattle.termination_model.specs.mappings.Supports.{picked_from}
use Rattle.termination_model.specs.sizes.Systems.{row_fits, system}
use Rattle.termination_model.specs.mappings.View.{fall_over}
use Rattle.termination_model.specs.mappings.View as view
use Rattle.termination_model.proofs.Points.{points_fall}
use Rattle.level_systems.specs.Collected.{SomeGivenUp}
use Rattle.level_systems.specs.Falling.{ShowFalls}
use Rattle.level_systems.specs.Found.{IsBlownSet}
use Rattle.level_systems.specs.Held.{recalled_at, spelled}
use Rattle.level_systems.specs.Pairs.{clause_at, pairs_of}
use Rattle.level_systems.specs.Recalled.{count_of}
use Rattle.level_systems.specs.Searched.{AreMeasuresAt, IsComponent}
use Rattle.level_systems.specs.declared.component.Component.{Component}
use Rattle.level_systems.specs.declared.measure.Measure.{Measure}
use Rattle.level_systems.specs.declared.position.Position.{Position}
use Rattle.level_dual.proofs.FallsShown.{all_shown}
use Rattle.level_dual.proofs.FoundLaws.{wide_heads}
use Rattle.level_systems.proofs.HeldCalls.{calls_are, lives_few}
use Rattle.level_dual.proofs.LiveCalls.{blown_by_lives}
use Rattle.level_dual.proofs.SearchLaws.{counts, drop_mapped, length_drop, length_take, lives, split_values, take_mapped}
use Rattle.level_systems.proofs.ViewCalls.{calls_are_pairs, system_same, take_map}

-- where some call is given up, every set is blown
module _ (expression : ℕ → Tree → List ℤ) (p : Listing) (comps : Partition) (rows : ℕ → List (List ℤ)) (c : ℕ) where
  pub before_same : (x : ℕ × ℕ) → rows_before expression (recalled_at expression p rows comps c x) ≡ system expression rows (clause_at p x.0).vars (take (x.1 - 1) (clause_at p x.0).body)
  before_same x =
      let k = clause_at p x.0 in
      ap (view.system_of expression k.vars) (take_map (view.call_of (size_claims expression p comps rows) c itself) (x.1 - 1) k.body) ∙ system_same expression p comps rows c k.vars (take (x.1 - 1) k.body)

  pub all_blown : SomeGivenUp expression p rows (pairs_of p comps c) → (s : List ℕ) → IsBlownSet expression p comps rows c s
  all_blown w s =
      let x = w.0 in
      let k = clause_at p x.0 in
      let o = recalled_at expression p rows comps c x in
      let there : In o (own_calls (component_view expression p comps rows c)) = subst (In o) (sym (calls_are_pairs expression p comps rows c)) (in-map (recalled_at expression p rows comps c) (pairs_of p comps c) x w.1) in
      elim w.2 [
        | inl wide ↦ unfit o wide.0 there (subst (In wide.0) (sym (before_same x)) wide.1) wide.2
        | inr test ↦ undecided o there (subst (λ (rs : List (List ℤ)). TestIsBlown k.vars rs (bottom_row k.vars)) (sym (before_same x)) test)
      ]

module _ (size : (ℕ → ℕ) → Tree → ℕ) (truth : (ℕ → Bool) → Tree → Bool) (expression : ℕ → Tree → List ℤ) (p : Listing) (comps : Partition) (rows : ℕ → List (List ℤ)) (c : ℕ) (x : Component)
    (h : IsComponent size truth expression p comps rows c x) where
  abbrev ls : List Recalled
  ls = lives size truth expression p comps rows c x h

  abbrev mine : List ℕ
  mine = map number_of x.by_clauses.items

  abbrev Fit : PlainMapping → List Recalled → List ℤ → Type 0
  Fit l os list = FallsFit expression (component_view expression p comps rows c) (arity_in p) l os list

  abbrev Targets : PlainMapping → Type 0
  Targets l = TargetsFit expression (component_view expression p comps rows c) (arity_in p) l

  -- the system of a set of positions, as the code has it
  module _ (s : List ℕ) (at : List Position) (is : map spelled at ≡ filter (λ r. list_any (same_position r) (picked_from 1 (map spelled x.positions.items) s)) (map spelled x.order.items))
      (n : ℕ) (lines : List (List ℤ)) (en : n ≡ length at + (length x.by_clauses.items + count_of x.calls.items)) (es : lines ≡ support_rows expression (map spelled at) mine ls) where
    abbrev picks : List Place
    picks = picked_from 1 (positions_in p comps c) s

    order_is : map spelled at ≡ in_order expression (component_view expression p comps rows c) (arity_in p) picks
    order_is =
        is ∙ (λ j. filter (λ r. list_any (same_position r) (picked_from 1 (h.positions j) s)) (h.order j))
        ∙ ap (λ (qs : List ℕ). filter (λ r. list_any (same_position r) picks) (positions_by (arity_in p) qs)) h.by_clauses

    width_is : n ≡ unknowns expression (map spelled at) mine ls
    width_is =
        en ∙ (λ j. sym (length-map at spelled) j + (sym (length-map x.by_clauses.items number_of) j + sym (counts expression p comps rows c (map spelled at) mine x.calls.items h.held) j))

    solution_is : live_calls expression (component_view expression p comps rows c) (arity_in p) ≡ ls
        → support_solution expression (component_view expression p comps rows c) (arity_in p) picks ≡ solution n lines
    solution_is e =
        sym ((λ j. solution (width_is j) (es j))
        ∙ (λ j. solution (unknowns expression (order_is j) (h.by_clauses j) (sym e j)) (support_rows expression (order_is j) (h.by_clauses j) (sym e j))))

    pub solving_blown : (step : ℕ) (wide : Bool) → solution n lines ≡ Blown step wide → IsBlownSet expression p comps rows c s
    solving_blown step wide b = blown_by_lives expression p comps rows c x.calls.items h.pairs h.held picks (λ e. solving step wide (solution_is e ∙ b))

    -- a point whose mapping has a fall that is not shown
    pub mapping_blown : (t : ℤ) (w : List ℤ) → solution n lines ≡ Found t w → IsPoint n lines t w → (ms : List Measure) → AreMeasuresAt p x at w ms
        → (ShowFalls ms x.calls.items (drop (length x.by_clauses.items) (drop (length at) w)) → ⊥) → IsBlownSet expression p comps rows c s
    mapping_blown t w found point ms measures none =
        let a = length at in
        let b = length x.by_clauses.items in
        let values = point.values in
        let cs = take a values in
        let os = take b (drop a values) in
        let vs = drop b (drop a values) in
        let long : length values ≡ a + (b + count_of x.calls.items) = point.long ∙ en in
        let rest : length (drop a values) ≡ b + count_of x.calls.items = length_drop a values (b + count_of x.calls.items) long in
        let lc : length cs ≡ a = length_take a values (omega (arith, long)) in
        let lo : length os ≡ b = length_take b (drop a values) (omega (arith, rest)) in
        let lv : length vs ≡ count_of x.calls.items = length_drop b (drop a values) (count_of x.calls.items) rest in
        let whole : cs ++ (os ++ vs) ≡ values = ap (λ (z : List ℕ). cs ++ z) (split_values b (drop a values)) ∙ split_values a values in
        let hold : AllHold (support_rows expression (map spelled at) mine ls) point.scale (cs ++ (os ++ vs)) =
        subst (λ (z : List ℕ). AllHold (support_rows expression (map spelled at) mine ls) point.scale z) (sym whole) (subst (λ (rs : List (List ℤ)). AllHold rs point.scale values) es point.hold) in
        let tc : take a w ≡ map pos cs = ap (take a) point.w_is ∙ take_mapped (λ k. pos k) a values in
        let to : take b (drop a w) ≡ map pos os = ap (λ (z : List ℤ). take b (drop a z)) point.w_is ∙ ap (take b) (drop_mapped (λ k. pos k) a values) ∙ take_mapped (λ k. pos k) b (drop a values) in
        let tv : drop b (drop a w) ≡ map pos vs = ap (λ (z : List ℤ). drop b (drop a z)) point.w_is ∙ ap (drop b) (drop_mapped (λ k. pos k) a values) ∙ drop_mapped (λ k. pos k) b (drop a values) in
        let spell = length-map at spelled in
        let count = length-map x.by_clauses.items number_of in
        let l = mapping_at (arity_in p) (map spelled at) mine cs os in
        let falls : AreFalls expression l ls vs =
        points_fall expression (map spelled at) mine (arity_in p) ls point.scale cs os vs (λ k u. h.norm.width k u) (lives_few expression p comps rows c x.calls.items h.pairs h.held h.program) point.some
        (lc ∙ sym spell) (lo ∙ sym count) (lv ∙ sym (counts expression p comps rows c (map spelled at) mine x.calls.items h.held)) hold in
        blown_by_lives expression p comps rows c x.calls.items h.pairs h.held picks (λ e.
        let same : mapping_at (arity_in p) (in_order expression (component_view expression p comps rows c) (arity_in p) picks) (members_of (component_view expression p comps rows c)) cs os ≡ l =
        λ j. mapping_at (arity_in p) (sym order_is j) (sym h.by_clauses j) cs os in
        mapping t cs os vs (solution_is e ∙ found ∙ ap (λ (z : List ℤ). Found t z) (point.w_is ∙ ap (map pos) (sym whole))) (lc ∙ sym spell ∙ ap length order_is) (lo ∙ sym count ∙ ap length h.by_clauses)
        (λ fit targets.
        let fit_here : Fit l ls (map pos vs) =
        subst (λ (k : List Recalled). Fit l k (map pos vs)) e
        (subst (λ (k : PlainMapping). Fit k (live_calls expression (component_view expression p comps rows c) (arity_in p)) (map pos vs)) same fit) in
        let targets_here : AllByRecursion (λ (o : Recalled). row_fits (fall_over expression o.rule o.member o.call.args 1 l) ≡ true) (own_calls (component_view expression p comps rows c)) =
        subst Targets same targets in
        none (subst (ShowFalls ms x.calls.items) (sym tv)
        (all_shown size truth expression h.norm p comps rows c ms l (measures.parts cs os lc lo tc to) x.calls.items vs h.held (wide_heads size truth expression p comps rows c x h ms measures.measures x.calls.items h.held) fit_here
        (subst (λ (k : List Recalled). AllByRecursion (λ (o : Recalled). row_fits (fall_over expression o.rule o.member o.call.args 1 l) ≡ true) k) (calls_are expression p comps rows c x.calls.items h.pairs h.held) targets_here) falls))))
