-- Where no turn can be made for some calls that can be reached, no list of mappings at its positions descends.
use Rattle.std.proofs.Common.{◌≡◌, ◌+◌, ◌≤◌, ℕ, ℤ, pos, Bool, true, false, List, [], ◌∷◌, ◌++◌, map, length, Option, None, Some, inl, inr, ap, sym, subst, ◌∙◌, arith}
use Rattle.std.specs.Prelude.{unsigned_abs}
use Rattle.std.specs.List.{AllByRecursion}
use Rattle.std.proofs.lemmas.List.{length-append, length-map}
use Rattle.call_components.proofs.Lists.{all_map}
use Rattle.call_components.specs.Numbers.{number_of}
use Rattle.call_components.specs.Partition.{Partition}
use Rattle.cti_terms.specs.Listing.{Listing}
use Rattle.cti_terms.specs.Tree.{Tree}
use Rattle.linear_rows.specs.Members.{In}
use Rattle.linear_rows.specs.Proves.{Refutes}
use Rattle.linear_rows.specs.declared.multipliers.Multipliers.{Multipliers}
use Rattle.termination_model.proofs.Readiness.{from_in, own_of}
use Rattle.termination_model.proofs.Refuting.{multipliers_refute}
use Rattle.termination_model.specs.mappings.ComponentViews.{component_view, positions_in}
use Rattle.termination_model.specs.mappings.Excluding.{IsZeroOutside, IsLive, IsOwnCall, number_count, pairs_at}
use Rattle.termination_model.specs.mappings.OwnCalls.{OwnCall as Recalled, Position as Place, own_calls}
use Rattle.termination_model.specs.mappings.Supports.{picked_from}
use Rattle.termination_model.specs.lists.TurnSystem.{sum_row, turn_rows, turn_rows_from, turn_unknowns}
use Rattle.termination_model.specs.mappings.View.{Rule}
use Rattle.level_systems.specs.Held.{live_of, spelled, with_live}
use Rattle.level_systems.specs.Searched.{IsComponent}
use Rattle.level_systems.specs.declared.component.Component.{Component}
use Rattle.level_systems.specs.declared.own_call.OwnCall.{OwnCall}
use Rattle.level_systems.specs.declared.position.Position.{Position}
use Rattle.level_systems.proofs.HeldCalls.{all_in, all_live, in_calls, lives_in, re}
use Rattle.level_dual.proofs.Excluded.{callees, callers, of_members}
use Rattle.level_dual.proofs.PartLaws.{are_naturals}
use Rattle.lex_turns.specs.Coursing.{IsRefuted, KeepReached}
use Rattle.lex_turns.specs.Descending.{NoneDescends, positions_at}
use Rattle.lex_turns.specs.Tracking.{kept}
use Rattle.lex_turns.proofs.NoneWithin.{split_last, within}
use Rattle.lex_turns.proofs.StuckWithin.{none_within}
use Rattle.termination_model.proofs.TurnRefutes.{all_times, rows_long, some_pair, support_refutes, times}

module _ (size : (ℕ → ℕ) → Tree → ℕ) (truth : (ℕ → Bool) → Tree → Bool) (expression : ℕ → Tree → List ℤ) (p : Listing) (comps : Partition) (rows : ℕ → List (List ℤ)) (c : ℕ) (x : Component)
    (h : IsComponent size truth expression p comps rows c x) where
  abbrev view : List Rule
  view = component_view expression p comps rows c

  abbrev own : OwnCall → Recalled
  own y = re expression p comps rows c y

  abbrev mine : List ℕ
  mine = map number_of x.by_clauses.items

  abbrev lives : List Recalled
  lives = map own (live_of x.calls.items)

  -- calls that are not gone are live
  kept_live : (owns : List OwnCall) (gs : List Bool) → KeepReached owns gs → (o : Recalled) → In o (map own (kept owns gs)) → In o (map own (live_of owns))
  kept_live [] gs r o i = absurd i
  kept_live (y ∷ owns) [] r o i = absurd i
  kept_live (y ∷ owns) (true ∷ gs) r o i = go y.empty (kept_live owns gs r o i)
    where
      go : (m : Option Multipliers) → In o (map own (live_of owns)) → In o (map own (with_live m y (live_of owns)))
      go None j = inr j
      go (Some by) j = j
  kept_live (y ∷ owns) (false ∷ gs) r o i = subst (λ (m : Option Multipliers). In o (map own (with_live m y (live_of owns)))) (sym r.0) (elim i [ inl e ↦ inl e | inr j ↦ inr (kept_live owns gs r.1 o j) ])

  module _ (at : List Position) (gone : List Bool) (reached : KeepReached x.calls.items gone) (many : 1 ≤ length (kept x.calls.items gone)) (refuted : IsRefuted expression p comps rows c x at (kept x.calls.items gone)) where
    abbrev ps : List Place
    ps = map spelled at

    abbrev told : List Recalled
    told = map own (kept x.calls.items gone)

    some : 1 ≤ length told
    some = let n = length-map (kept x.calls.items gone) own in omega (arith, n, many)

    told_live : (o : Recalled) → In o told → In o lives
    told_live o i = kept_live x.calls.items gone reached o i

    told_view : (o : Recalled) → In o told → In o (own_calls view)
    told_view o i = in_calls expression p comps rows c x.calls.items h.pairs h.held o (told_live o i)

    are_own : AllByRecursion (IsOwnCall view) told
    are_own = all_in (IsOwnCall view) told (λ o i. own_of view o (told_view o i))

    are_live : AllByRecursion (IsLive expression) told
    are_live = all_in (IsLive expression) told (λ o i. from_in (IsLive expression) lives (all_live expression p comps rows c x.calls.items h.held) o (told_live o i))

    of_mine : (o : Recalled) → In o told → In o.rule.member mine × In o.member mine
    of_mine o i = (
      callers size truth expression p comps rows c x h o (told_view o i),
      callees size truth expression p comps rows c x h x.calls.items h.inside h.held o (lives_in expression p comps rows c x.calls.items o (told_live o i)),
    )

    pub none_among : (s : List ℕ) → ps ≡ positions_at expression p comps rows c s → NoneDescends expression p comps rows c s
    none_among s is ls at_picked d =
        let ns = refuted.0 in
        let refutes = refuted.1 in
        let naturals = are_naturals ns refutes.natural in
        let count : length (map unsigned_abs ns) ≡ number_count told + 1 =
        length-map ns unsigned_abs ∙ refutes.long ∙ length-append (turn_rows_from expression ps mine 0 0 told) (sum_row expression ps mine told ∷ []) ∙ ap (λ n. n + 1) (rows_long expression view ps mine 0 0 told) in
        let last = split_last (number_count told) (map unsigned_abs ns) count in
        let vs = last.front in
        let proved : Refutes (turn_unknowns expression ps mine told) (turn_rows expression ps mine told) (map pos (vs ++ last.last ∷ [])) =
        subst (Refutes (turn_unknowns expression ps mine told) (turn_rows expression ps mine told)) (naturals ∙ ap (map pos) last.is) refutes in
        let pairs = multipliers_refute expression view ps mine told vs (λ k t. h.norm.width k t) are_own are_live last.long (support_refutes expression view ps mine told vs last.last some last.long proved) in
        let positive = all_times told vs last.long (times expression view ps mine told vs last.last some last.long proved) in
        none_within expression view ps mine (pairs_at told vs) ls (of_members mine told vs of_mine) pairs (some_pair told vs some last.long) positive
        (all_map (IsZeroOutside (picked_from 1 (positions_in p comps c) s)) (IsZeroOutside ps) (λ l a q b lt. subst (In {X = Place} (q, b)) (sym is) (within size truth expression p comps rows c x h s (q, b) (a q b lt))) ls at_picked) d
