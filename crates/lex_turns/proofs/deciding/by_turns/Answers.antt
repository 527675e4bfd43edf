use Rattle.std.proofs.Common.{◌≡◌, ℕ, List, None, refl, length, map, ap, sym, subst, ◌∙◌}
use Rattle.std.specs.List.{list_any}
use Rattle.call_components.specs.Partition.{Partition}
use Rattle.termination_model.specs.mappings.BlownSupports.{same_position}
use Rattle.termination_model.specs.sizes.Sizes.{rows_of}
use Rattle.termination_model.specs.mappings.Supports.{AreDistinct, picked_from}
use Rattle.level_systems.specs.Held.{spelled}
use Rattle.level_systems.specs.Searched.{IsComponent}
use Rattle.level_systems.specs.declared.position.Position.{Position}
use Rattle.level_systems.proofs.SoundLaws.{filter_distinct}
use Rattle.level_dual.proofs.Results.{if_ok}
use Rattle.lex_turns.specs.Coursing.{IsStopped}
use Rattle.linear_rows.specs.Step.{columns}
use Rattle.lex_turns.specs.Descending.{IsGivenUp, positions_at}
use Rattle.termination_model.specs.mappings.ComponentViews.{component_view}
use Rattle.termination_model.specs.mappings.Ready.{arity_in}
use Rattle.lex_turns.specs.Found.{IsEndedAt, IsVoid}
use Rattle.lex_turns.specs.FoundLists.{IsUnmapped, MayBeMissing}
use Rattle.level_systems.specs.Found.{full as full_of}
use Rattle.lex_turns.proofs.ListCases.{not_found_are}
use Rattle.lex_turns.proofs.ListWalk.{full_same, large_told}
use Rattle.lex_turns.proofs.AllPlaces.{all_at}
use Rattle.lex_turns.proofs.EndsAt.{ended_at}
use Rattle.lex_turns.proofs.PositionsAt.{positions_are}
use Rattle.lex_turns.proofs.deciding.by_turns.Given.{Over}
use Rattle.lex_turns.proofs.deciding.by_turns.Goals.{In_ok-list}
use Rattle.lex_turns.proofs.deciding.by_turns.Goals as goal

-- how the turns of a component end
module _ (g : Over) (c : In_ok-list g) (comps : Partition) (r : ℕ)
    (h : IsComponent (g.N.Norm.size c.args.norm.now) (g.N.Norm.truth c.args.norm.now) (g.N.Norm.expression c.args.norm.now) c.args.p.now comps (rows_of c.args.sizes.now.rows) r c.args.component.now) where
  there : map spelled c.as_slice-2.result.now ≡ positions_at (g.N.Norm.expression c.args.norm.now) c.args.p.now comps (rows_of c.args.sizes.now.rows) r c.as_slice.result.now
  there =
      let norm = c.args.norm.now in
      positions_are (g.N.Norm.size norm) (g.N.Norm.truth norm) (g.N.Norm.expression norm) c.args.p.now comps (rows_of c.args.sizes.now.rows) r c.args.component.now h c.as_slice.result.now c.as_slice-2.result.now
      (ap (map spelled) c.as_slice-2.ensures.value ∙ c.in_ok-at.ensures)

  ended : IsEndedAt (g.N.Norm.expression c.args.norm.now) c.args.p.now comps (rows_of c.args.sizes.now.rows) r c.args.component.now c.as_slice-2.result.now c.as_slice.result.now c.in_ok-list.field-0
  ended =
      let norm = c.args.norm.now in
      ended_at (g.N.Norm.size norm) (g.N.Norm.truth norm) (g.N.Norm.expression norm) c.args.p.now comps (rows_of c.args.sizes.now.rows) r c.args.component.now h c.as_slice.result.now c.as_slice-2.result.now there _
      (c.in_ok-list.ensures.ended (g.N.Norm.size norm) (g.N.Norm.truth norm) (g.N.Norm.expression norm) comps (rows_of c.args.sizes.now.rows) r h)

pub take_turns-requires-clause-distinct : goal.take_turns-requires-clause-distinct
take_turns-requires-clause-distinct g c =
    let x = c.args.component.now in
    subst (λ (ps : List Position). AreDistinct (map spelled ps)) (sym c.as_slice-2.ensures.value)
    (subst AreDistinct (sym c.in_ok-at.ensures) (filter_distinct (λ r. list_any (same_position r) (picked_from 1 (map spelled x.positions.items) c.as_slice.result.now)) (map spelled x.order.items) c.requires.sound.distinct))

pub returns-in-List : goal.returns-in-List
returns-in-List g c = if_ok c.of_list.result (λ f is. λ comps r h unmapped.
    let norm = c.args.norm.now in
    let listed = rw c.as_slice.ensures at (rw c.in-List.is at (ended g (goal.at.returns-in-List g c).In_ok-list comps r h)) in
    is (g.N.Norm.size norm) (g.N.Norm.truth norm) (g.N.Norm.expression norm) comps (rows_of c.args.sizes.now.rows) r h unmapped listed) c.of_list.ensures

pub returns : goal.returns
returns g c = if_ok c.of_given_up.result (λ f is. λ comps r h unmapped.
    let norm = c.args.norm.now in
    let given_up = rw c.as_slice.ensures at (rw c.in-GivenUp.is at (ended g (goal.at.returns g c).In_ok-list comps r h)) in
    is (g.N.Norm.size norm) (g.N.Norm.truth norm) (g.N.Norm.expression norm) comps (rows_of c.args.sizes.now.rows) r h unmapped given_up) c.of_given_up.ensures

pub returns-in-Refuted : goal.returns-in-Refuted
returns-in-Refuted g c =
    let here = (goal.at.returns-in-Refuted g c).In_ok-list in
    let e = g.N.Norm.expression c.args.norm.now in
    let size = g.N.Norm.size c.args.norm.now in
    let truth = g.N.Norm.truth c.args.norm.now in
    let p = c.args.p.now in
    let x = c.args.component.now in
    let rows = rows_of c.args.sizes.now.rows in
    if_ok c.not_found.result (λ f is. λ comps r h unmapped.
    let refuted = rw c.in-Refuted.is at (ended g here comps r h) in
    let full : c.as_slice.result.now ≡ columns 1 (length x.positions.items) = c.as_slice.ensures ∙ c.requires.full in
    let all = full_same size truth e p comps rows r x h in
    let at = c.as_slice-in-Refuted.result.now in
    let same_at : c.as_slice-2.result.now ≡ at = c.as_slice-2.ensures.value ∙ sym c.as_slice-in-Refuted.ensures.value in
    let stopped : IsStopped e p comps rows r x at c.as_slice-in-Refuted-2.result.now = rw c.as_slice-in-Refuted-2.ensures.value (rw same_at at refuted.0) in
    let everywhere : map spelled at ≡ positions_at e p comps rows r (columns 1 (length x.positions.items)) = ap (map spelled) (sym same_at) ∙ there g here comps r h ∙ ap (positions_at e p comps rows r) full in
    let large = large_told size truth e p comps rows r x h c.is_large-large.result c.as_slice-in-Refuted-3.result.now c.is_large-large.ensures c.as_slice-in-Refuted-3.ensures.value c.is_large-large.result refl in
    let given : c.in_ok-stuck-in-Refuted.stuck ≡ None → MayBeMissing e p comps rows r (full_of e p comps rows r) = λ none. (
      subst (IsGivenUp e (component_view e p comps rows r) (arity_in p)) (everywhere ∙ ap (positions_at e p comps rows r) all)
          (c.in_ok-stuck-in-Refuted.ensures.given_up none comps r h (all_at size truth e p comps rows r x h at everywhere) stopped),
      subst (IsUnmapped e p comps rows r) (c.requires.full ∙ all) unmapped,
    ) in
    not_found_are e p comps rows r c.is_large-large.result large (subst (IsVoid e p comps rows r) (full ∙ all) refuted.1) c.args.full (c.requires.full ∙ all) c.in_ok-stuck-in-Refuted.stuck
    (c.in_ok-stuck-in-Refuted.ensures.stuck comps r h stopped) given f is) c.not_found.ensures
