use Rattle.std.proofs.Common.{◌∷◌, [], List, true, map, ap, sym, subst, ◌∙◌, arith}
use Rattle.std.specs.List.{AllByRecursion}
use Rattle.std.proofs.lemmas.List.{length-map}
use Rattle.termination_model.proofs.Lists.{by_places}
use Rattle.transitions.specs.Transitions.{Transition}
use Rattle.number_turns.specs.Recalled.{HasNumbers, recalled, recalled_of, spelled}
use Rattle.number_turns.specs.Turning.{IsTurned}
use Rattle.number_lists.proofs.Tracked.{all_unmarked, element}
use Rattle.number_lists.proofs.turning.turn_of_one.Goals as goal

pub turn-requires : goal.turn-requires
turn-requires c =
    let τs = map recalled c.args.transitions.now in
    let long = length-map c.args.transitions.now recalled in
    let at = element τs c.args.first (omega (arith, c.requires.first, long)) in
    subst (AllByRecursion HasNumbers) (sym (ap recalled_of c.as_slice.ensures.value ∙ c.in_ok-rest.ensures at.0 at.1))
    (by_places HasNumbers τs c.requires.numbers c.args.first at.0 at.1, all_unmarked HasNumbers τs c.args.gone.now c.requires.numbers)

pub returns : goal.returns
returns c = λ τ at.
    subst (λ (rest : List Transition). IsTurned (map spelled c.args.features.now) rest (true ∷ []) c.in_ok-turned.turned) (ap recalled_of c.as_slice.ensures.value ∙ c.in_ok-rest.ensures τ at) c.in_ok-turned.ensures.turned
