use Rattle.std.proofs.Common.{◌≡◌, ◌++◌, ◌∷◌, [], List, Some, slice_get, map, ap, ◌∙◌}
use Rattle.std.specs.Borrow.{Bor}
use Rattle.termination_model.proofs.Lists.{at_place, map_push, mapped_place, one_element}
use Rattle.transitions.specs.Turns.{unmarked}
use Rattle.number_turns.specs.Recalled.{held_of, recalled}
use Rattle.number_turns.specs.declared.transition.Transition.{Transition}
use Rattle.number_lists.proofs.Tracked.{unmarked_map}
use Rattle.number_lists.proofs.tracking.with_first.Goals as goal

pub returns : goal.returns
returns c = λ τ at.
    let τs = c.args.transitions.now in
    let gone = c.args.gone.now in
    let own : Transition = c.index-transitions-first.result in
    let there : slice_get τs c.args.first ≡ Some own = at_place τs c.args.first own c.requires.first c.index-transitions-first.is in
    let same : recalled own ≡ τ = one_element (map recalled τs) c.args.first (recalled own) τ (mapped_place recalled τs c.args.first own there) at in
    let all : held_of c.in_ok-rest.rest.items ≡ own ∷ unmarked τs gone =
    c.in_ok-rest.ensures
    ∙ ap (λ (bs : List (Bor Transition)). held_of bs ++ unmarked τs gone) c.in_ok-push.ensures.items
    ∙ ap (λ (os : List Transition). os ++ unmarked τs gone) (map_push (λ (b : Bor Transition). b.now) c.new-rest.result.items _)
    ∙ ap (λ (bs : List (Bor Transition)). (held_of bs ++ own ∷ []) ++ unmarked τs gone) c.new-rest.ensures.items in
    ap (map recalled) all ∙ (λ j. same j ∷ unmarked_map recalled τs gone j)
