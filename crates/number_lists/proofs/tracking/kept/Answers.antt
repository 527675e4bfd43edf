use Rattle.std.proofs.Common.{◌++◌, List, map, ap, ◌∙◌}
use Rattle.std.specs.Borrow.{Bor}
use Rattle.transitions.specs.Turns.{unmarked}
use Rattle.number_turns.specs.Recalled.{held_of, recalled}
use Rattle.number_turns.specs.declared.transition.Transition.{Transition}
use Rattle.number_lists.proofs.Tracked.{unmarked_map}
use Rattle.number_lists.proofs.tracking.kept.Goals as goal

pub returns : goal.returns
returns c =
    let τs = c.args.transitions.now in
    let gone = c.args.gone.now in
    ap (map recalled) (c.in_ok-rest.ensures ∙ ap (λ (bs : List (Bor Transition)). held_of bs ++ unmarked τs gone) c.new.ensures.items) ∙ unmarked_map recalled τs gone
