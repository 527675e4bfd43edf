use Rattle.std.proofs.Common.{◌↔◌, ◌<◌, Bool, IsTrue, length, map, subst}
use Rattle.level_dual.proofs.Results.{if_ok}
use Rattle.number_turns.specs.Recalled.{recalled}
use Rattle.number_lists.specs.FoundLists.{support_of_list}
use Rattle.number_lists.proofs.deciding.of_list.Goals as goal

pub returns-then-is_large : goal.returns-then-is_large
returns-then-is_large c =
    if_ok c.find_large.result (λ f is. λ width are unmapped found.
    let x = c.args.system.now in
    let large = subst (λ (b : Bool). IsTrue b ↔ (12 < length x.positions.now)) c.if-is_large.true c.is_large.ensures in
    is width are large (record { list = found.list; has = found.has; single = λ long. (c.args.full, found.part, unmapped long) })) c.find_large.ensures

pub returns : goal.returns
returns c =
    if_ok c.find_small.result (λ f is. λ width are unmapped found.
    let x = c.args.system.now in
    let large = subst (λ (b : Bool). IsTrue b ↔ (12 < length x.positions.now)) c.if-is_large.false c.is_large.ensures in
    is width are large (λ yes. cc) (λ no none. none (support_of_list x.members.now x.positions.now (map recalled x.transitions.now) width c.args.list) found.has)) c.find_small.ensures
