use Rattle.std.proofs.Common.{List, map, ap, sym, subst, ◌∙◌}
use Rattle.std.specs.List.{list_any}
use Rattle.termination_model.specs.mappings.BlownSupports.{same_position}
use Rattle.termination_model.specs.mappings.Supports.{AreDistinct, picked_from}
use Rattle.level_systems.specs.Held.{spelled}
use Rattle.level_systems.specs.declared.position.Position.{Position}
use Rattle.level_systems.proofs.SoundLaws.{filter_distinct}
use Rattle.level_dual.proofs.Results.{if_ok}
use Rattle.lex_turns.proofs.PositionsAt.{positions_are}
use Rattle.lex_turns.proofs.needing.is_needed.Goals as goal

pub sticks-requires-clause-distinct : goal.sticks-requires-clause-distinct
sticks-requires-clause-distinct c =
    let x = c.args.component.now in
    subst (λ (ps : List Position). AreDistinct (map spelled ps)) (sym c.as_slice-2.ensures.value)
    (subst AreDistinct (sym c.in_ok-at.ensures) (filter_distinct (λ r. list_any (same_position r) (picked_from 1 (map spelled x.positions.items) c.args.set.now)) (map spelled x.order.items) c.requires.distinct))

pub returns : goal.returns
returns c =
    if_ok c.sticks.result (λ b is. λ yes size truth expression comps rows r h.
    let s = c.args.set.now in
    let at = c.as_slice-2.result.now in
    is yes size truth expression comps rows r h s (positions_are size truth expression c.args.p.now comps rows r c.args.component.now h s at (ap (map spelled) c.as_slice-2.ensures.value ∙ c.in_ok-at.ensures))) c.sticks.ensures
