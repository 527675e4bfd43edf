use Rattle.std.proofs.Common.{◌≡◌, ◌<◌, List, length, Some, slice_get, ap, sym, subst, ◌∙◌, arith}
use Rattle.termination_model.proofs.Lists.{at_place}
use Rattle.termination_model.specs.mappings.ComponentViews.{positions_in}
use Rattle.level_dual.proofs.Results.{if_ok}
use Rattle.level_systems.specs.declared.mapping.Mapping.{Mapping}
use Rattle.lex_turns.specs.Large.{IsHadList}
use Rattle.lex_turns.specs.Single.{one_list}
use Rattle.lex_turns.specs.declared.measure_list.MeasureList.{MeasureList}
use Rattle.lex_turns.proofs.ListWalk.{position_count}
use Rattle.lex_turns.proofs.MappingLists.{first_had, true_is}
use Rattle.lex_turns.proofs.deciding.of_large_mapping.Goals as goal

pub returns : goal.returns
returns c =
    if_ok c.find_large-2.result (λ f is. λ size truth expression comps rows r h s many found.
    let p = c.args.p.now in
    let count = position_count size truth expression p comps rows r c.args.component.now h in
    let more : 12 < length (positions_in p comps r) = subst (λ n. 12 < n) (sym count) many in
    let first = c.in_ok-found.ensures.found size truth expression comps rows r h (true_is more) (found.mapping, found.has) in
    let m : Mapping = c.index-as_slice-0.result in
    let some = c.in_ok-found.ensures.some in
    let count_same : length c.as_slice.result.now ≡ length c.in_ok-found.found.mappings = ap length c.as_slice.ensures in
    let at : slice_get c.in_ok-found.found.mappings 0 ≡ Some m = ap (λ (ms : List Mapping). slice_get ms 0) (sym c.as_slice.ensures) ∙ at_place c.as_slice.result.now 0 m (omega (arith, some, count_same)) c.index-as_slice-0.is in
    let list : c.in_ok-list.list ≡ one_list m = c.in_ok-list.ensures in
    is size truth expression comps rows r h (true_is more) (subst (IsHadList expression p comps rows r) (sym list) (first_had expression p comps rows r c.in_ok-found.found first m at))) c.find_large-2.ensures
