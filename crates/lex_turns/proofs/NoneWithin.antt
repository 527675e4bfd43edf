-- Where the search stops at calls for which no turn can be made, no list of mappings at its positions descends.
use Rattle.std.proofs.Common.{◌≡◌, ◌+◌, ◌≤◌, ℕ, zero, suc, ℤ, pos, Bool, List, [], ◌∷◌, ◌++◌, map, length, slice_get, Option, None, Some, inl, inr, refl, ap, sym, subst, ◌∙◌, arith}
use Rattle.std.specs.Prelude.{unsigned_abs}
use Rattle.std.specs.List.{AllByRecursion}
use Rattle.std.proofs.lemmas.List.{length-append, length-map}
use Rattle.call_components.proofs.Lists.{all_map}
use Rattle.call_components.specs.Numbers.{number_of}
use Rattle.call_components.specs.Partition.{IsIn, Partition}
use Rattle.cti_terms.specs.Listing.{Listing}
use Rattle.cti_terms.specs.Tree.{Tree}
use Rattle.linear_rows.specs.Members.{In}
use Rattle.linear_rows.specs.Proves.{Refutes}
use Rattle.termination_model.proofs.Having.{picked_in}
use Rattle.termination_model.proofs.Lists.{indexed}
use Rattle.termination_model.proofs.Readiness.{from_in, own_of}
use Rattle.termination_model.proofs.Refuting.{multipliers_refute}
use Rattle.termination_model.specs.claims.Claims.{Mapping}
use Rattle.termination_model.specs.mappings.ComponentViews.{component_view, members_in, positions_in}
use Rattle.termination_model.specs.mappings.Excluding.{IsZeroOutside, IsLive, IsOfMembers, IsOwnCall, IsRefutationAt, number_count, pairs_at}
use Rattle.termination_model.specs.mappings.OwnCalls.{OwnCall as Recalled, Position as Place, members_of, own_calls}
use Rattle.termination_model.specs.mappings.Ready.{arity_in, positions_by}
use Rattle.termination_model.specs.mappings.Refutation.{Pair}
use Rattle.termination_model.specs.lists.Stuck.{ListDescends}
use Rattle.termination_model.specs.mappings.Supports.{picked_from}
use Rattle.termination_model.specs.lists.TurnSystem.{left, sum_row, turn_rows, turn_rows_from, turn_unknowns}
use Rattle.termination_model.specs.lists.Turns.{Turn, remaining}
use Rattle.termination_model.specs.mappings.View.{Rule}
use Rattle.level_systems.specs.Held.{live_of, spelled}
use Rattle.level_systems.specs.Searched.{IsComponent}
use Rattle.level_systems.specs.declared.component.Component.{Component}
use Rattle.level_systems.specs.declared.own_call.OwnCall.{OwnCall}
use Rattle.level_systems.specs.declared.position.Position.{Position}
use Rattle.level_systems.proofs.HeldCalls.{all_in, all_live, in_calls, lives_in, re}
use Rattle.level_systems.proofs.SoundLaws.{in_contains, no_place}
use Rattle.level_dual.proofs.Excluded.{callees, callers, of_members}
use Rattle.level_dual.proofs.MemberLaws.{all_members}
use Rattle.level_dual.proofs.PartLaws.{are_naturals}
use Rattle.level_dual.proofs.SupportLaws.{in_ordered, position_of, pred_of}
use Rattle.lex_turns.specs.Coursing.{IsStopped}
use Rattle.lex_turns.specs.Descending.{NoneDescends, positions_at}
use Rattle.lex_turns.specs.Tracking.{kept}
use Rattle.lex_turns.proofs.StuckWithin.{none_within}
use Rattle.termination_model.proofs.TurnRefutes.{all_times, rows_long, some_pair, support_refutes, times}

-- ---- calls that turns leave
left_in : (rest : List Recalled) (ds : List ℕ) (o : Recalled) → In o (left rest ds) → In o rest
left_in [] ds o i = i
left_in (x ∷ rest) [] o i = i
left_in (x ∷ rest) (zero ∷ ds) o (inl e) = inl e
left_in (x ∷ rest) (zero ∷ ds) o (inr i) = inr (left_in rest ds o i)
left_in (x ∷ rest) (suc d ∷ ds) o i = inr (left_in rest ds o i)

pub remaining_in : (rest : List Recalled) (us : List Turn) (o : Recalled) → In o (remaining rest us) → In o rest
remaining_in rest [] o i = i
remaining_in rest (u ∷ us) o i = left_in rest u.drops o (remaining_in (left rest u.drops) us o i)

-- the last of some numbers
pub record HasLast (n : ℕ) (xs : List ℕ) : Type 0 where
  pub front : List ℕ
  pub last : ℕ
  pub is : xs ≡ front ++ last ∷ []
  pub long : length front ≡ n

pub split_last : (n : ℕ) (xs : List ℕ) → length xs ≡ n + 1 → HasLast n xs
split_last n [] e = absurd (omega (arith, e))
split_last zero (x ∷ []) e = record { front = []; last = x; is = refl; long = refl }
split_last zero (x ∷ (y ∷ xs)) e = absurd (omega (arith, e))
split_last (suc n) (x ∷ xs) e =
    let rest = split_last n xs (omega (arith, e)) in
    record { front = x ∷ rest.front; last = rest.last; is = ap (λ s. x ∷ s) rest.is; long = ap suc rest.long }

module _ (size : (ℕ → ℕ) → Tree → ℕ) (truth : (ℕ → Bool) → Tree → Bool) (expression : ℕ → Tree → List ℤ) (p : Listing) (comps : Partition) (rows : ℕ → List (List ℤ)) (c : ℕ) (x : Component)
    (h : IsComponent size truth expression p comps rows c x) where
  abbrev view : List Rule
  view = component_view expression p comps rows c

  abbrev own : OwnCall → Recalled
  own y = re expression p comps rows c y

  abbrev mine : List ℕ
  mine = map number_of x.by_clauses.items

  -- a member by its list is of the component
  is_inside : (q : ℕ) → In q (members_in comps c) → IsIn comps c q
  is_inside q i = go (slice_get comps.members c) refl
    where
      go : (o : Option (List ℕ)) → slice_get comps.members c ≡ o → IsIn comps c q
      go None e = absurd (no_place comps.members c e h.inner)
      go (Some ms) e = (h.components.members c ms e q).0 (in_contains ms q (subst (In q) (indexed comps.members c ms [] e) i))

  pub within : (s : List ℕ) (y : Place) → In y (picked_from 1 (positions_in p comps c) s) → In y (positions_at expression p comps rows c s)
  within s y i =
      let there = picked_in (positions_in p comps c) 1 s y i in
      let (member, argument) = pred_of (arity_in p) (members_in comps c) y there in
      in_ordered (positions_by (arity_in p) (members_of view)) (picked_from 1 (positions_in p comps c) s) y
      (position_of (arity_in p) (members_of view) y.0 y.1 (all_members expression p comps rows c h.components h.recursive y.0 (is_inside y.0 member)) argument) i

  module _ (at : List Position) (gone : List Bool) (stopped : IsStopped expression p comps rows c x at gone) where
    abbrev ps : List Place
    ps = map spelled at

    abbrev told : List Recalled
    told = map own (kept x.calls.items gone)

    abbrev lives : List Recalled
    lives = map own (live_of x.calls.items)

    some : 1 ≤ length told
    some = let n = length-map (kept x.calls.items gone) own in let e = stopped.some in omega (arith, n, e)

    told_live : (o : Recalled) → In o told → In o lives
    told_live o i = let turns = stopped.turns in remaining_in lives turns.turns o (subst (In o) (sym turns.left) i)

    pub told_view : (o : Recalled) → In o told → In o (own_calls view)
    told_view o i = in_calls expression p comps rows c x.calls.items h.pairs h.held o (told_live o i)

    are_own : AllByRecursion (IsOwnCall view) told
    are_own = all_in (IsOwnCall view) told (λ o i. own_of view o (told_view o i))

    are_live : AllByRecursion (IsLive expression) told
    are_live = all_in (IsLive expression) told (λ o i. from_in (IsLive expression) lives (all_live expression p comps rows c x.calls.items h.held) o (told_live o i))

    pub of_mine : (o : Recalled) → In o told → In o.rule.member mine × In o.member mine
    of_mine o i = (
      callers size truth expression p comps rows c x h o (told_view o i),
      callees size truth expression p comps rows c x h x.calls.items h.inside h.held o (lives_in expression p comps rows c x.calls.items o (told_live o i)),
    )

    module _ (vs : List ℕ) (s : ℕ) (long : length vs ≡ number_count told) (refutes : Refutes (turn_unknowns expression ps mine told) (turn_rows expression ps mine told) (map pos (vs ++ s ∷ []))) where
      pub pairs_refute : IsRefutationAt expression ps mine view (pairs_at told vs)
      pairs_refute =
          multipliers_refute expression view ps mine told vs (λ k t. h.norm.width k t) are_own are_live long (support_refutes expression view ps mine told vs s some long refutes)

      pub pairs_positive : AllByRecursion (λ (y : Pair). 1 ≤ y.t) (pairs_at told vs)
      pairs_positive = all_times told vs long (times expression view ps mine told vs s some long refutes)

      pub pairs_mine : AllByRecursion (IsOfMembers mine) (pairs_at told vs)
      pairs_mine = of_members mine told vs of_mine

      pub excludes : (ls : List Mapping) → AllByRecursion (IsZeroOutside ps) ls → ListDescends expression view ls → ⊥
      excludes ls at_ps = none_within expression view ps mine (pairs_at told vs) ls pairs_mine pairs_refute (some_pair told vs some long) pairs_positive at_ps

    -- no list at these positions descends
    pub none_descends : (s : List ℕ) → ps ≡ positions_at expression p comps rows c s → NoneDescends expression p comps rows c s
    none_descends s is ls at_picked d =
        let refuted = stopped.refuted in
        let ns = refuted.0 in
        let refutes = refuted.1 in
        let naturals = are_naturals ns refutes.natural in
        let count : length (map unsigned_abs ns) ≡ number_count told + 1 =
        length-map ns unsigned_abs ∙ refutes.long ∙ length-append (turn_rows_from expression ps mine 0 0 told) (sum_row expression ps mine told ∷ []) ∙ ap (λ n. n + 1) (rows_long expression view ps mine 0 0 told) in
        let last = split_last (number_count told) (map unsigned_abs ns) count in
        let proved : Refutes (turn_unknowns expression ps mine told) (turn_rows expression ps mine told) (map pos (last.front ++ last.last ∷ [])) =
        subst (Refutes (turn_unknowns expression ps mine told) (turn_rows expression ps mine told)) (naturals ∙ ap (map pos) last.is) refutes in
        excludes last.front last.last last.long proved ls
        (all_map (IsZeroOutside (picked_from 1 (positions_in p comps c) s)) (IsZeroOutside ps) (λ l at q a lt. subst (In {X = Place} (q, a)) (sym is) (within s (q, a) (at q a lt))) ls at_picked) d
