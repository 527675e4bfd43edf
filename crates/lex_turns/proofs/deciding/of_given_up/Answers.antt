use Rattle.std.proofs.Common.{true, false, inl, refl, ◌∙◌}
use Rattle.level_dual.proofs.Results.{if_ok}
use Rattle.lex_turns.proofs.ListCases.{given_up_are}
use Rattle.lex_turns.proofs.ListWalk.{full_same, large_told}
use Rattle.lex_turns.proofs.deciding.of_given_up.Goals as goal

pub returns-then-is_large : goal.returns-then-is_large
returns-then-is_large c =
    if_ok c.not_found.result (λ f is. λ size truth expression comps rows r h unmapped given.
    let p = c.args.p.now in
    let x = c.args.component.now in
    let large = large_told size truth expression p comps rows r x h c.is_large.result c.as_slice.result.now c.is_large.ensures c.as_slice.ensures.value true c.if-is_large.true in
    let full = c.requires.full ∙ full_same size truth expression p comps rows r x h in
    given_up_are expression p comps rows r true large (inl refl) c.args.full full (given, unmapped) f is) c.not_found.ensures

pub returns : goal.returns
returns c =
    if_ok c.find_small.result (λ f is. λ size truth expression comps rows r h unmapped given.
    let p = c.args.p.now in
    let large = large_told size truth expression p comps rows r c.args.component.now h c.is_large.result c.as_slice.result.now c.is_large.ensures c.as_slice.ensures.value false c.if-is_large.false in
    is size truth expression comps rows r h large (λ yes. (given, unmapped)) (λ no none. cc)) c.find_small.ensures
