use Rattle.std.proofs.Common.{◌<◌, ◌∙◌, ℕ, ap, arith, get_or, length, slice_get}
use Rattle.call_components.specs.Numbers.{number_of}
use Rattle.cti_terms.specs.declared.predicates.PredId.{PredId}
use Rattle.termination_model.proofs.Lists.{mapped_place, place_below, there}
use Rattle.carried_mappings.specs.Order.{AreNamesakes}
use Rattle.carried_mappings.proofs.Parts.{map_at}
use Rattle.carried_mappings.proofs.Placing.{none_more}
use Rattle.carried_mappings.proofs.places.place_before.Goals as goal

abbrev none : PredId
none = record { 0 = 0 }

pub loop-j-init : goal.loop-j-init
loop-j-init c = λ k q lt at same. absurd (omega arith)

pub loop-j-preserved : goal.loop-j-preserved
loop-j-preserved c =
    let e = c.args.edit.now in
    let xs = c.args.before.now in
    let j = c.loop-j.j in
    none_more (λ (q : PredId). AreNamesakes e q.0 c.args.member.0) xs j (get_or xs j none) (there xs j none (omega arith)) c.loop-j.invariant
    (λ same. let right = c.is_namesake.ensures.1 same in let wrong = c.if-is_namesake.false in cc)

pub returns-then-is_namesake : goal.returns-then-is_namesake
returns-then-is_namesake c =
    let xs = c.args.before.now in
    let j = c.loop-j.j in
    record {
      pred = (get_or xs j none).0;
      at = mapped_place number_of xs j (get_or xs j none) (there xs j none (omega arith));
      named = c.is_namesake.ensures.0 c.if-is_namesake.true;
    }

pub returns : goal.returns
returns c =
    let e = c.args.edit.now in
    let xs = c.args.before.now in
    let place = c.requires.there in
    let from = map_at number_of xs place.0 place.1.pred place.1.at in
    let below : place.0 < length xs = place_below xs place.0 from.0 from.1 in
    let same : AreNamesakes e from.0.0 c.args.member.0 = ap (λ (n : ℕ). slice_get e.before.now.preds n) from.2 ∙ place.1.named in
    absurd (c.loop-j.invariant place.0 from.0 (omega arith) from.1 same)
