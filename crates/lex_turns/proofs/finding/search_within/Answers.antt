use Rattle.std.proofs.Common.{List, map, ap, sym, subst, ◌∙◌}
use Rattle.std.specs.List.{list_any}
use Rattle.termination_model.specs.mappings.BlownSupports.{same_position}
use Rattle.termination_model.specs.mappings.Supports.{AreDistinct, picked_from}
use Rattle.level_systems.specs.Held.{spelled}
use Rattle.level_systems.specs.declared.position.Position.{Position}
use Rattle.level_systems.proofs.SoundLaws.{filter_distinct}
use Rattle.lex_turns.specs.Found.{IsEndedAt}
use Rattle.lex_turns.proofs.EndsAt.{ended_at}
use Rattle.lex_turns.proofs.PositionsAt.{positions_are}
use Rattle.lex_turns.proofs.finding.search_within.Goals as goal

pub take_turns-requires-clause-distinct : goal.take_turns-requires-clause-distinct
take_turns-requires-clause-distinct c =
    let x = c.args.component.now in
    subst (λ (ps : List Position). AreDistinct (map spelled ps)) (sym c.as_slice.ensures.value)
    (subst AreDistinct (sym c.in_ok-at.ensures) (filter_distinct (λ r. list_any (same_position r) (picked_from 1 (map spelled x.positions.items) c.args.set.now)) (map spelled x.order.items) c.requires.distinct))

pub returns-in-List : goal.returns-in-List
returns-in-List c = λ size truth expression comps rows r h.
    let x = c.args.component.now in
    let p = c.args.p.now in
    let s = c.args.set.now in
    let at = c.as_slice.result.now in
    let is = positions_are size truth expression p comps rows r x h s at (ap (map spelled) c.as_slice.ensures.value ∙ c.in_ok-at.ensures) in
    subst (IsEndedAt expression p comps rows r x at s) c.in-List.is (ended_at size truth expression p comps rows r x h s at is _ (c.in_ok-list.ensures.ended size truth expression comps rows r h))

pub returns-in-Refuted : goal.returns-in-Refuted
returns-in-Refuted c = λ size truth expression comps rows r h.
    let x = c.args.component.now in
    let p = c.args.p.now in
    let s = c.args.set.now in
    let at = c.as_slice.result.now in
    let is = positions_are size truth expression p comps rows r x h s at (ap (map spelled) c.as_slice.ensures.value ∙ c.in_ok-at.ensures) in
    (subst (IsEndedAt expression p comps rows r x at s) c.in-Refuted.is (ended_at size truth expression p comps rows r x h s at is _ (c.in_ok-list.ensures.ended size truth expression comps rows r h))).1

pub returns : goal.returns
returns c = λ size truth expression comps rows r h.
    let x = c.args.component.now in
    let p = c.args.p.now in
    let s = c.args.set.now in
    let at = c.as_slice.result.now in
    let is = positions_are size truth expression p comps rows r x h s at (ap (map spelled) c.as_slice.ensures.value ∙ c.in_ok-at.ensures) in
    subst (IsEndedAt expression p comps rows r x at s) c.in-GivenUp.is (ended_at size truth expression p comps rows r x h s at is _ (c.in_ok-list.ensures.ended size truth expression comps rows r h))
