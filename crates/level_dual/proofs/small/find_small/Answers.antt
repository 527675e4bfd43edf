use Rattle.std.proofs.Common.{List, ℕ, ◌∙◌, subst}
use Rattle.level_systems.specs.Found.{IsBlownSet}
use Rattle.level_dual.specs.Walked.{IsCompleted}
use Rattle.level_dual.specs.declared.walked.Walked.{Walked}
use Rattle.level_dual.proofs.FoundCases.{completed_found}
use Rattle.level_dual.proofs.WalkLaws.{full_in, sets_in}
use Rattle.level_dual.proofs.small.find_small.Goals as goal

pub returns : goal.returns
returns c = λ size truth expression comps rows r h large given undone.
    let p = c.args.p.now in
    let x = c.args.component.now in
    let w : Walked = c.in_ok-walked.walked in
    let walked = c.in_ok-walked.ensures size truth expression comps rows r h in
    let full = c.requires.full ∙ full_in size truth expression p comps rows r x h in
    completed_found expression p comps rows r (sets_in size truth expression p comps rows r x h) large w walked c.args.given_up c.is_empty-none.result (λ e. subst (IsBlownSet expression p comps rows r) full (given e)) undone c.is_empty-none.ensures c.in_ok-blown.blown
    (subst (λ (s : List ℕ). IsCompleted c.args.given_up c.is_empty-none.result s w.blown c.in_ok-blown.blown) full c.in_ok-blown.ensures)
