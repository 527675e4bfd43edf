use Rattle.std.proofs.Common.{◌≡◌, List, Some, map, ap, sym, subst, ◌∙◌}
use Rattle.std.specs.List.{AllByRecursion}
use Rattle.transitions.specs.Transitions.{Transition}
use Rattle.number_turns.specs.Recalled.{HasNumbers, recalled, recalled_of, spelled}
use Rattle.number_turns.specs.declared.feature.Feature.{Feature as Held}
use Rattle.number_lists.specs.Coursing.{CannotLeave, IsAllMade, IsSomeStep, free, rest_of}
use Rattle.number_lists.proofs.Steps.{all_made, some_step}
use Rattle.number_lists.proofs.Tracked.{all_unmarked}
use Rattle.number_lists.proofs.turning.step.Goals as goal

pub turn_of_all-requires : goal.turn_of_all-requires
turn_of_all-requires c = subst (AllByRecursion HasNumbers) (sym c.requires.rest) (all_unmarked HasNumbers (map recalled c.args.transitions.now) c.args.gone.now c.requires.numbers)

pub returns-in-Some : goal.returns-in-Some
returns-in-Some c =
    let τs = c.args.transitions.now in
    let gone = c.args.gone.now in
    let cs = map spelled c.args.candidates.now in
    let features = c.as_slice.result.now in
    let had : map spelled features ≡ free cs (rest_of τs gone) =
    ap (map spelled) c.as_slice.ensures.value ∙ c.in_ok-features.ensures ∙ ap (free cs) c.requires.rest in
    let all = subst (λ (xs : List Transition). IsAllMade features xs (Some c.in-Some.made)) c.requires.rest (subst (IsAllMade features (recalled_of c.args.rest.now)) c.in-Some.is c.in_ok-made.ensures) in
    all_made features τs gone cs had c.in-Some.made all

pub returns : goal.returns
returns c =
    let τs = c.args.transitions.now in
    let gone = c.args.gone.now in
    let cs = map spelled c.args.candidates.now in
    let features = c.in_ok-features.features.items in
    let had : map spelled features ≡ free cs (rest_of τs gone) = c.in_ok-features.ensures ∙ ap (free cs) c.requires.rest in
    let none = subst (IsAllMade c.as_slice.result.now (recalled_of c.args.rest.now)) c.in_default.is c.in_ok-made.ensures in
    let fails = subst (λ (xs : List Transition). CannotLeave (map spelled features) xs) c.requires.rest (subst (λ (fs : List Held). CannotLeave (map spelled fs) (recalled_of c.args.rest.now)) c.as_slice.ensures.value none) in
    some_step features τs gone cs had c.in_ok-step.step fails (subst (λ (fs : List Held). IsSomeStep fs τs gone c.in_ok-step.step) c.as_slice-2.ensures.value c.in_ok-step.ensures)
