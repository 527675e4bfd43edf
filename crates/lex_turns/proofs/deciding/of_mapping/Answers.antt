use Rattle.std.proofs.Common.{◌<◌, length, false, subst}
use Rattle.termination_model.specs.mappings.ComponentViews.{positions_in}
use Rattle.level_systems.specs.Mappings.{support_of}
use Rattle.level_dual.proofs.Results.{if_ok}
use Rattle.lex_turns.proofs.ListSupports.{list_had}
use Rattle.lex_turns.proofs.ListWalk.{large_told}
use Rattle.lex_turns.proofs.MappingLists.{is_true}
use Rattle.lex_turns.proofs.deciding.of_mapping.Goals as goal

pub returns-then-is_large : goal.returns-then-is_large
returns-then-is_large c =
    if_ok c.of_large_mapping.result (λ f is. λ size truth expression comps rows r h found.
    is size truth expression comps rows r h c.args.full (subst (λ qs. 12 < length qs) c.as_slice.ensures.value (c.is_large.ensures.0 (is_true c.is_large.result c.if-is_large.true))) found) c.of_large_mapping.ensures

pub returns : goal.returns
returns c =
    if_ok c.find_small.result (λ f is. λ size truth expression comps rows r h found.
    let p = c.args.p.now in
    let large = large_told size truth expression p comps rows r c.args.component.now h c.is_large.result c.as_slice.result.now c.is_large.ensures c.as_slice.ensures.value false c.if-is_large.false in
    let s = support_of (positions_in p comps r) c.args.mapping in
    is size truth expression comps rows r h large (λ yes. cc) (λ no none. none s (list_had expression p comps rows r s found.has))) c.find_small.ensures
