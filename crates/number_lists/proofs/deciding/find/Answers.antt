use Rattle.std.proofs.Common.{List, ℕ, length, map, subst, sym, ◌∙◌}
use Rattle.linear_rows.specs.Members.{In}
use Rattle.level_dual.proofs.FoundCases.{in_columns}
use Rattle.level_dual.proofs.Results.{if_ok}
use Rattle.transitions.specs.StuckSets.{IsStuckAt}
use Rattle.number_turns.specs.Recalled.{recalled}
use Rattle.number_lists.specs.Features.{is_picked}
use Rattle.number_lists.specs.Found.{IsChosen, IsListIn, IsVoid, IsWithin}
use Rattle.number_lists.specs.FoundLists.{AreFoundLists, IsUnmapped, MayBeMissing}
use Rattle.number_lists.specs.declared.position.Position.{Position}
use Rattle.number_lists.proofs.ListCases.{none_at_all, stuck_lists}
use Rattle.number_lists.proofs.ListSupports.{all_picked}
use Rattle.number_lists.proofs.deciding.find.Goals as goal

pub returns-in-List : goal.returns-in-List
returns-in-List c =
    if_ok c.of_list.result (λ f is. λ width are.
    let x = c.args.system.now in
    let τs = map recalled x.transitions.now in
    let s = c.as_slice.result.now in
    let l = c.in-List.list in
    let found = subst (IsWithin x.members.now x.positions.now τs width s) c.in-List.is (c.in_ok-list.ensures.within width are) in
    let chosen = subst (IsChosen x.members.now x.positions.now τs width s) c.in-List.is (c.in_ok-list.ensures.chosen width are) in
    is width are (λ long. subst (IsUnmapped x.members.now x.positions.now τs) c.as_slice.ensures (chosen long)) (subst (λ (t : List ℕ). IsListIn x.members.now x.positions.now τs width t l) c.as_slice.ensures found)) c.of_list.ensures

pub returns-in-Nothing : goal.returns-in-Nothing
returns-in-Nothing c = λ width are.
    let x = c.args.system.now in
    let positions = x.positions.now in
    let τs = map recalled x.transitions.now in
    let s = c.as_slice.result.now in
    let same = c.as_slice.ensures ∙ c.requires.full in
    let nothing = subst (IsWithin x.members.now positions τs width s) c.in-Nothing.is (c.in_ok-list.ensures.within width are) in
    let groups = c.in-Nothing.groups in
    let void = subst (IsVoid x.members.now positions τs width) same nothing.1 in
    let stuck = nothing.0 in
    let whole = all_picked positions 1 s (λ k low high. subst (λ (t : List ℕ). In k t) (sym same) (in_columns (length positions) 1 k low high)) in
    let at = subst (λ (ps : List Position). IsStuckAt (is_picked ps) τs stuck.0) whole stuck.2 in
    subst (AreFoundLists x.members.now positions τs width) (sym c.of_stuck.ensures)
    (stuck_lists x.members.now positions τs width c.is_large-large.result c.is_large-large.ensures (none_at_all x.members.now positions τs width void) groups (stuck.0, stuck.1, at))

pub returns-in-GivenUp : goal.returns-in-GivenUp
returns-in-GivenUp c =
    if_ok c.of_given_up.result (λ f is. λ width are.
    let x = c.args.system.now in
    let τs = map recalled x.transitions.now in
    let s = c.as_slice.result.now in
    let given = subst (IsWithin x.members.now x.positions.now τs width s) c.in-GivenUp.is (c.in_ok-list.ensures.within width are) in
    let chosen = subst (IsChosen x.members.now x.positions.now τs width s) c.in-GivenUp.is (c.in_ok-list.ensures.chosen width are) in
    is width are (subst (MayBeMissing x.members.now x.positions.now τs) c.as_slice.ensures (given, chosen))) c.of_given_up.ensures
