use Rattle.std.proofs.Common.{◌≡◌, List, map, ap, subst, ◌∙◌}
use Rattle.transitions.specs.StuckSets.{Feature}
use Rattle.number_turns.specs.Recalled.{spelled}
use Rattle.number_lists.specs.Coursing.{IsEnded}
use Rattle.number_lists.specs.Features.{features_of, picked_from}
use Rattle.number_lists.proofs.SetEnds.{chosen_of, within_of}
use Rattle.number_lists.proofs.searching.find_at.Goals as goal

pub returns-clause-within : goal.returns-clause-within
returns-clause-within c = λ width are.
    let x = c.args.system.now in
    let members = x.members.now in
    let s = c.args.set.now in
    let same : map spelled c.as_slice-2.result.now ≡ features_of members (picked_from 1 x.positions.now s) =
    ap (map spelled) c.as_slice-2.ensures.value ∙ c.in_ok-candidates.ensures ∙ ap (features_of members) (c.as_slice.ensures.value ∙ c.in_ok-at.ensures) in
    within_of members x.positions.now x.transitions.now width are s c.in_ok-found.found (subst (λ (fs : List Feature). IsEnded fs x.transitions.now c.in_ok-found.found) same c.in_ok-found.ensures)

pub returns-clause-chosen : goal.returns-clause-chosen
returns-clause-chosen c = λ width are.
    let x = c.args.system.now in
    let members = x.members.now in
    let s = c.args.set.now in
    let same : map spelled c.as_slice-2.result.now ≡ features_of members (picked_from 1 x.positions.now s) =
    ap (map spelled) c.as_slice-2.ensures.value ∙ c.in_ok-candidates.ensures ∙ ap (features_of members) (c.as_slice.ensures.value ∙ c.in_ok-at.ensures) in
    chosen_of members x.positions.now x.transitions.now width are s c.in_ok-found.found (subst (λ (fs : List Feature). IsEnded fs x.transitions.now c.in_ok-found.found) same c.in_ok-found.ensures)
