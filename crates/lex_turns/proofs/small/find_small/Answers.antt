use Rattle.std.proofs.Common.{List, ℕ, ◌∙◌, subst}
use Rattle.level_dual.specs.Walked.{IsCompleted}
use Rattle.lex_turns.specs.FoundLists.{MayBeMissing}
use Rattle.lex_turns.specs.declared.walked.Walked.{Walked}
use Rattle.lex_turns.proofs.ListCases.{completed_lists}
use Rattle.lex_turns.proofs.ListWalk.{full_same}
use Rattle.lex_turns.proofs.small.find_small.Goals as goal

pub returns : goal.returns
returns c = λ size truth expression comps rows r h large given undone.
    let p = c.args.p.now in
    let x = c.args.component.now in
    let w : Walked = c.in_ok-walked.walked in
    let walked = c.in_ok-walked.ensures size truth expression comps rows r h in
    let full = c.requires.full ∙ full_same size truth expression p comps rows r x h in
    completed_lists expression p comps rows r large w walked c.args.given_up c.is_empty-none.result (λ e. subst (MayBeMissing expression p comps rows r) full (given e)) undone c.is_empty-none.ensures c.in_ok-blown.blown
    (subst (λ (s : List ℕ). IsCompleted c.args.given_up c.is_empty-none.result s w.blown c.in_ok-blown.blown) full c.in_ok-blown.ensures)
