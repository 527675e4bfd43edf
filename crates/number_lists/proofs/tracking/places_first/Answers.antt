use Rattle.std.proofs.Common.{◌++◌, ◌∷◌, [], List, ap, sym, ◌∙◌}
use Rattle.number_lists.specs.Tracking.{no_places}
use Rattle.number_lists.specs.declared.place.Place.{Place}
use Rattle.number_lists.proofs.Tracked.{no_places_more}
use Rattle.number_lists.proofs.tracking.places_first.Goals as goal

pub loop-preserved : goal.loop-preserved
loop-preserved c =
    let place : Place = record { multipliers = c.new.result; floor = c.new-in-loop.result } in
    c.in_ok-push.ensures.items ∙ ap (λ (ps : List Place). ps ++ place ∷ []) c.loop.invariant
    ∙ (λ j. let now : Place = record { multipliers = c.new.ensures j; floor = c.new-in-loop.ensures j } in no_places c.loop.counter ++ now ∷ []) ∙ sym (no_places_more c.loop.counter)
