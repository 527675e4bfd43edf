use Rattle.std.proofs.Common.{true, false}
use Rattle.termination_model.specs.mappings.ComponentViews.{positions_in}
use Rattle.level_dual.proofs.Results.{if_ok}
use Rattle.lex_turns.specs.FoundLists.{support_of_list}
use Rattle.lex_turns.proofs.ListWalk.{large_told}
use Rattle.lex_turns.proofs.deciding.of_list.Goals as goal

pub returns-then-is_large : goal.returns-then-is_large
returns-then-is_large c =
    if_ok c.find_large.result (λ f is. λ size truth expression comps rows r h unmapped found.
    let p = c.args.p.now in
    let x = c.args.component.now in
    let large = large_told size truth expression p comps rows r x h c.is_large.result c.as_slice.result.now c.is_large.ensures c.as_slice.ensures.value true c.if-is_large.true in
    is size truth expression comps rows r h large (record { list = found.list; has = found.has; single = λ long. (c.args.full, found.part, unmapped) })) c.find_large.ensures

pub returns : goal.returns
returns c =
    if_ok c.find_small.result (λ f is. λ size truth expression comps rows r h unmapped found.
    let p = c.args.p.now in
    let large = large_told size truth expression p comps rows r c.args.component.now h c.is_large.result c.as_slice.result.now c.is_large.ensures c.as_slice.ensures.value false c.if-is_large.false in
    is size truth expression comps rows r h large (λ yes. cc) (λ no none. none (support_of_list (positions_in p comps r) c.args.list) found.has)) c.find_small.ensures
