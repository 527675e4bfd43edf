-- The list that turns at the positions of a set give is found: it descends, and its support is part of the set.
use Rattle.std.proofs.Common.{◌≡◌, ◌⊎◌, inl, inr, ◌+◌, ◌<◌, ◌≤◌, ℕ, zero, suc, ℤ, pos, negsuc, Bool, List, [], ◌∷◌, map, take, length, slice_get, Some, refl, ap, sym, subst, arith}
use Rattle.std.specs.List.{AllByRecursion}
use Rattle.std.proofs.lemmas.List.{length-map}
use Rattle.cti_terms.specs.Listing.{Listing}
use Rattle.cti_terms.specs.Tree.{Tree}
use Rattle.call_components.specs.Partition.{Partition}
use Rattle.call_components.proofs.Lists.{all_map}
use Rattle.linear_rows.specs.Members.{In}
use Rattle.linear_rows.proofs.Members.{in-left, in-right}
use Rattle.linear_rows.specs.Rows.{AreEmpty, HoldsOn}
use Rattle.termination_model.specs.mappings.Coefficients.{coefficient}
use Rattle.termination_model.specs.claims.Claims.{Mapping}
use Rattle.termination_model.specs.mappings.ComponentViews.{component_view, members_in, positions_in, size_claims}
use Rattle.termination_model.specs.mappings.Excluding.{IsZeroOutside}
use Rattle.termination_model.specs.mappings.OwnCalls.{OwnCall as Recalled, Position, members_of, own_calls, own_calls_from, rows_before}
use Rattle.termination_model.specs.mappings.Ready.{arity_in, positions_by}
use Rattle.termination_model.specs.sizes.Rows.{added, scaled}
use Rattle.termination_model.specs.lists.Stuck.{ListDescends}
use Rattle.termination_model.specs.mappings.SupportLaws.{HasFew}
use Rattle.termination_model.specs.mappings.SupportSystem.{mapping_at}
use Rattle.termination_model.specs.mappings.Supports.{picked_from}
use Rattle.termination_model.specs.sizes.Systems.{row_over}
use Rattle.termination_model.specs.lists.Turns.{Turn, mapping_by}
use Rattle.termination_model.specs.mappings.View.{Call, FallsOver, Member, Rule, fall_over, system_of}
use Rattle.termination_model.proofs.Having.{picked_in}
use Rattle.termination_model.proofs.OwnCallsThere.{call_there}
use Rattle.termination_model.proofs.Refuted.{from_in as some_in}
use Rattle.termination_model.proofs.Readiness.{own_of, views_have_few}
use Rattle.termination_model.proofs.TurnLists.{turns_descend}
use Rattle.level_systems.specs.Mappings.{HasMeasures, mapping_with}
use Rattle.level_systems.specs.Searched.{IsComponent}
use Rattle.level_systems.specs.Valued.{IsPartOf}
use Rattle.level_systems.specs.declared.component.Component.{Component}
use Rattle.level_systems.specs.declared.measure.Measure.{Measure}
use Rattle.level_systems.proofs.HeldCalls.{all_in}
use Rattle.level_dual.proofs.SearchLaws.{distinct, laws, members_there}
use Rattle.level_dual.proofs.SupportLaws.{mapping_same, of_ordered, offset_same, part_or_none}
use Rattle.lex_turns.specs.Descending.{AreMeasuresAt, AreMeasuresOf, AreReached, IsListAt, positions_at}
use Rattle.lex_turns.specs.Descending.AreMeasuresAt.{turned, zero as measured_zero}
use Rattle.lex_turns.specs.Found.{IsListIn}
use Rattle.lex_turns.specs.FoundLists.{AreNeeded, mappings_of}
use Rattle.lex_turns.specs.declared.measure_list.MeasureList.{MeasureList}
use Rattle.lex_turns.proofs.ListSupports.{part_of_set}

-- ---- the calls that can be reached
module _ (expression : ℕ → Tree → List ℤ) where
  reached_in : (os lives : List Recalled) → AreReached expression os lives → (o : Recalled) → In o lives → In o os
  reached_in [] lives r o i = subst (In o) r i
  reached_in (x ∷ os) lives (inl e) o i = inr (reached_in os lives e.1 o i)
  reached_in (x ∷ os) lives (inr (rest, is, live, r)) o i = elim (subst (In o) is i) [ inl e ↦ inl e | inr j ↦ inr (reached_in os rest r o j) ]

  reached_or : (os lives : List Recalled) → AreReached expression os lives → (o : Recalled) → In o os → In o lives ⊎ AreEmpty (suc o.rule.vars) (rows_before expression o)
  reached_or [] lives r o i = absurd i
  reached_or (x ∷ os) lives (inl e) o (inl same) = inr (subst (λ (y : Recalled). AreEmpty (suc y.rule.vars) (rows_before expression y)) same e.0)
  reached_or (x ∷ os) lives (inl e) o (inr i) = reached_or os lives e.1 o i
  reached_or (x ∷ os) lives (inr (rest, is, live, r)) o (inl same) = inl (subst (In o) (sym is) (inl same))
  reached_or (x ∷ os) lives (inr (rest, is, live, r)) o (inr i) = elim (reached_or os rest r o i) [ inl j ↦ inl (subst (In o) (sym is) (inr j)) | inr e ↦ inr e ]

-- mappings that are the same at these predicates
abbrev AreSame : List ℕ → Mapping → Mapping → Type 0
AreSame names k l = (q : ℕ) → In q names → (k.coefficients q ≡ l.coefficients q) × (k.offset q ≡ l.offset q)

abbrev AreAllSame : List ℕ → List Mapping → List Mapping → Type 0
AreAllSame names [] [] = Unit {0}
AreAllSame names [] (l ∷ ls) = ⊥
AreAllSame names (k ∷ ks) [] = ⊥
AreAllSame names (k ∷ ks) (l ∷ ls) = AreSame names k l × AreAllSame names ks ls

-- falls depend on the levels of the head and of the call
drops_over : (expression : ℕ → Tree → List ℤ) (r : Rule) (q d : ℕ) (ts : List Tree) (k l : Mapping) → k.coefficients r.member ≡ l.coefficients r.member → k.offset r.member ≡ l.offset r.member
    → k.coefficients q ≡ l.coefficients q → k.offset q ≡ l.offset q → fall_over expression r q ts d k ≡ fall_over expression r q ts d l
drops_over expression r q d ts k l a b e f =
    λ j. added (row_over expression r.vars r.args (pos (b j) ∷ map pos (a j))) (scaled (negsuc 0) (added (row_over expression r.vars ts (pos (f j) ∷ map pos (e j))) (pos d ∷ [])))

places_same : (expression : ℕ → Tree → List ℤ) (names : List ℕ) (r : Rule) (rs : List (List ℤ)) (q : ℕ) (ts : List Tree) → In r.member names → In q names → (i : ℕ) (ks ls : List Mapping) → AreAllSame names ks ls
    → FallsOver expression r rs q ts i ls → FallsOver expression r rs q ts i ks
places_same expression names r rs q ts a b i [] [] same f = f
places_same expression names r rs q ts a b i [] (l ∷ ls) same f = absurd same
places_same expression names r rs q ts a b i (k ∷ ks) [] same f = absurd same
places_same expression names r rs q ts a b zero (k ∷ ks) (l ∷ ls) same f =
    let head = same.0 r.member a in
    let call = same.0 q b in
    subst (HoldsOn (suc r.vars) rs) (sym (drops_over expression r q 1 ts k l head.0 head.1 call.0 call.1)) f
places_same expression names r rs q ts a b (suc i) (k ∷ ks) (l ∷ ls) same f =
    let head = same.0 r.member a in
    let call = same.0 q b in (
      subst (HoldsOn (suc r.vars) rs) (sym (drops_over expression r q 0 ts k l head.0 head.1 call.0 call.1)) f.0,
      places_same expression names r rs q ts a b i ks ls same.1 f.1,
    )

-- ---- what holds at each call of a view
each_call : (P : Recalled → Type 0) (rs : List Rule) → ((o : Recalled) → In o (own_calls rs) → P o)
    → AllByRecursion (λ (k : Rule). (j : ℕ) (b : Call) (q : ℕ) → slice_get k.body j ≡ Some b → b.place ≡ Member q → P (record { rule = k; place = j; call = b; member = q })) rs
each_call P [] h = tt
each_call P (k ∷ ks) h = (
  (λ j b q at e.
      let zero_more : 0 + j ≡ j = omega arith in
      h (record { rule = k; place = j; call = b; member = q })
      (in-left (own_calls_from k 0 k.body) (own_calls ks) (record { rule = k; place = j; call = b; member = q }) (rw zero_more at (call_there k 0 k.body j b q at e)))),
  each_call P ks (λ o i. h o (in-right (own_calls_from k 0 k.body) (own_calls ks) o i)),
)

-- the list falls at some place
abbrev HasPlaceIn : (ℕ → Tree → List ℤ) → List Mapping → Recalled → Type 0
HasPlaceIn expression ls o = (i : ℕ) × FallsOver expression o.rule (rows_before expression o) o.member o.call.args i ls

module _ (size : (ℕ → ℕ) → Tree → ℕ) (truth : (ℕ → Bool) → Tree → Bool) (expression : ℕ → Tree → List ℤ) (p : Listing) (comps : Partition) (rows : ℕ → List (List ℤ)) (c : ℕ) (x : Component)
    (h : IsComponent size truth expression p comps rows c x) where
  abbrev view : List Rule
  view = component_view expression p comps rows c

  abbrev names : List ℕ
  names = members_in comps c

  -- a list descends with one that is the same for all members
  same_descends : (ks ls : List Mapping) → AreAllSame names ks ls → ListDescends expression view ls → ListDescends expression view ks
  same_descends ks ls same d = each_call (HasPlaceIn expression ks) view (λ o i.
      let own = own_of view o i in
      let there = members_there size truth expression p comps rows c x h o i in
      let (k, f) = some_in (λ (r : Rule). (j : ℕ) (b : Call) (q : ℕ) → slice_get r.body j ≡ Some b → b.place ≡ Member q
      → (n : ℕ) × FallsOver expression r (system_of expression r.vars (take j r.body)) q b.args n ls) view o.rule d own.there o.place o.call o.member own.call own.member in
      (k, places_same expression names o.rule (rows_before expression o) o.member o.call.args there.0 there.1 k ks ls same f))

  -- where no call is ever reached, each list that is not empty descends
  dead_descends : (l : Mapping) (ls : List Mapping) → AreReached expression (own_calls view) [] → ListDescends expression view (l ∷ ls)
  dead_descends l ls reached = each_call (HasPlaceIn expression (l ∷ ls)) view (λ o i. elim (reached_or expression (own_calls view) [] reached o i) [
    | inl none ↦ absurd none
    | inr empty ↦ (0, λ t w ht lw hold. absurd (empty t w ht lw hold))
  ])

  module _ (s : List ℕ) where
    abbrev at : List Position
    at = positions_at expression p comps rows c s

    abbrev mine : List ℕ
    mine = members_of view

    abbrev picks : List Position
    picks = picked_from 1 (positions_in p comps c) s

    at_picks : (ps : List Position) (qs cs os : List ℕ) (ms : List Measure) → ((r : Position) → In r ps → In r picks) → AllByRecursion (λ (m : Measure). IsPartOf (mapping_at (arity_in p) ps qs cs os) m.pred.0 m.part) ms
        → IsZeroOutside picks (mapping_with ms)
    at_picks ps qs cs os ms inside parts q a lt =
        let l = mapping_at (arity_in p) ps qs cs os in
        elim (part_or_none ms q) [
          | inl i ↦
              let lt' : 0 < coefficient (l.coefficients q) a = subst (λ (zs : List ℕ). 0 < coefficient zs a) (mapping_same l ms q parts i) lt in
              inside (q, a) ((laws size truth expression p comps rows c x h).at ps cs os q a lt')
          | inr none ↦ let lt' : 0 < coefficient [] a = subst (λ (zs : List ℕ). 0 < coefficient zs a) none lt in absurd (omega (arith, lt'))
        ]

    part_same : (l : Mapping) (ms : List Measure) → HasMeasures p names ms → AllByRecursion (λ (m : Measure). IsPartOf l m.pred.0 m.part) ms → AreSame names (mapping_with ms) l
    part_same l ms m parts q i =
        let there = subst (In q) (sym m.each) i in
        (mapping_same l ms q parts there, offset_same l ms q parts there)

    ordered : (r : Position) → In r at → In r picks
    ordered r i = of_ordered (positions_by (arity_in p) mine) picks r i

    all_measures : (us : List Turn) (mss : List (List Measure)) → AreMeasuresOf p names at mine us mss → AllByRecursion (HasMeasures p names) mss
    all_measures [] [] are = tt
    all_measures [] (ms ∷ mss) are = absurd are
    all_measures (u ∷ us) [] are = absurd are
    all_measures (u ∷ us) (ms ∷ mss) are = let first = are.0 in (first.measures, all_measures us mss are.1)

    all_at : (us : List Turn) (mss : List (List Measure)) → AreMeasuresOf p names at mine us mss → AllByRecursion (IsZeroOutside picks) (map mapping_with mss)
    all_at [] [] are = tt
    all_at [] (ms ∷ mss) are = absurd are
    all_at (u ∷ us) [] are = absurd are
    all_at (u ∷ us) (ms ∷ mss) are = let first = are.0 in (at_picks at mine u.coefficients u.offsets ms ordered first.parts, all_at us mss are.1)

    all_same : (us : List Turn) (mss : List (List Measure)) → AreMeasuresOf p names at mine us mss → AreAllSame names (map mapping_with mss) (map (mapping_by (arity_in p) at mine) us)
    all_same [] [] are = tt
    all_same [] (ms ∷ mss) are = absurd are
    all_same (u ∷ us) [] are = absurd are
    all_same (u ∷ us) (ms ∷ mss) are = let first = are.0 in (part_same (mapping_by (arity_in p) at mine u) ms first.measures first.parts, all_same us mss are.1)

    same_long : (us : List Turn) (mss : List (List Measure)) → AreMeasuresOf p names at mine us mss → length mss ≡ length us
    same_long [] [] are = refl
    same_long [] (ms ∷ mss) are = absurd are
    same_long (u ∷ us) [] are = absurd are
    same_long (u ∷ us) (ms ∷ mss) are = ap suc (same_long us mss are.1)

    -- what the measures of a list are
    record AreFine (mss : List (List Measure)) : Type 0 where
      some : 1 ≤ length mss
      measures : AllByRecursion (HasMeasures p names) mss
      at_set : AllByRecursion (IsZeroOutside picks) (map mapping_with mss)
      descend : ListDescends expression view (map mapping_with mss)

    fine : (mss : List (List Measure)) → AreMeasuresAt expression p comps rows c at mss → AreFine mss
    fine mss (turned lives us reached turns none some are) = record {
      some = let long = same_long us mss are in omega (arith, some, long);
      measures = all_measures us mss are;
      at_set = all_at us mss are;
      descend = same_descends (map mapping_with mss) (map (mapping_by (arity_in p) at mine) us) (all_same us mss are)
          (turns_descend expression view at mine (arity_in p) lives us (λ n t. h.norm.width n t)
          (all_in (HasFew (arity_in p)) lives (λ o i. views_have_few p (size_claims expression p comps rows) c h.program o (reached_in expression (own_calls view) lives reached o i)))
          (λ o i. reached_or expression (own_calls view) lives reached o i) turns none some);
    }
    fine mss (measured_zero ms reached is m parts) = subst AreFine (sym is) (record {
      some = omega arith;
      measures = (m, tt);
      at_set = (at_picks [] [] [] [] ms (λ r i. absurd i) parts, tt);
      descend = dead_descends (mapping_with ms) [] reached;
    })

    pub list_found : (l : MeasureList) → IsListAt expression p comps rows c at l → AreNeeded expression p comps rows c l → IsListIn expression p comps rows c s l
    list_found l is needed =
        let f = fine l.measures is.measures in
        let at_all = all_map (IsZeroOutside picks) (IsZeroOutside (positions_in p comps c)) (λ k a q b lt. picked_in (positions_in p comps c) 1 s (q, b) (a q b lt)) (mappings_of l) f.at_set in
        record {
          list = record { some = f.some; measures = f.measures; pairs = is.pairs; places = is.places; needed = needed; at = at_all; descends = f.descend };
          part = part_of_set expression p comps rows c (distinct size truth expression p comps rows c x h) s (mappings_of l) f.at_set;
          has = record { list = mappings_of l; some = let n = length-map l.measures mapping_with in let more = f.some in omega (arith, n, more); at = at_all; descends = f.descend; is = refl };
        }
