use Rattle.std.proofs.Common.{List, ℕ, map, subst}
use Rattle.level_dual.specs.Walked.{IsCompleted}
use Rattle.number_turns.specs.Recalled.{recalled}
use Rattle.number_lists.specs.FoundLists.{MayBeMissing}
use Rattle.number_lists.specs.declared.walking.Walked.{Walked}
use Rattle.number_lists.proofs.ListCases.{completed_lists}
use Rattle.number_lists.proofs.deciding.find_small.Goals as goal

pub returns : goal.returns
returns c = λ width are large given undone.
    let x = c.args.system.now in
    let τs = map recalled x.transitions.now in
    let w : Walked = c.in_ok-walked.walked in
    let walked = c.in_ok-walked.ensures width are in
    let full = c.requires.full in
    completed_lists x.members.now x.positions.now τs width large w walked c.args.given_up c.is_empty-none.result (λ e. subst (MayBeMissing x.members.now x.positions.now τs) full (given e)) undone c.is_empty-none.ensures c.in_ok-blown.blown
    (subst (λ (s : List ℕ). IsCompleted c.args.given_up c.is_empty-none.result s w.blown c.in_ok-blown.blown) full c.in_ok-blown.ensures)
