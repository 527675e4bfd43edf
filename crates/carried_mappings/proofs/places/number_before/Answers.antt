use Rattle.std.proofs.Common.{◌≡◌, ◌<◌, ◌+◌, ◌∙◌, ℕ, ap, arith, get_or, length, map, slice_get, subst}
use Rattle.level_systems.specs.Held.{spelled}
use Rattle.level_systems.specs.declared.position.Position.{Position}
use Rattle.termination_model.specs.mappings.OwnCalls.{Position as Place}
use Rattle.termination_model.proofs.Lists.{mapped_place, place_below, there}
use Rattle.component_laws.specs.Supported.{IsNumber}
use Rattle.carried_mappings.specs.Order.{AreNamesakes}
use Rattle.carried_mappings.proofs.Placing.{none_more, number_at, place_of_number}
use Rattle.carried_mappings.proofs.Parts.{map_at}
use Rattle.carried_mappings.proofs.places.number_before.Goals as goal

abbrev none : Position
none = record { pred = record { 0 = 0 }; argument = 0 }

pub loop-i-init : goal.loop-i-init
loop-i-init c = λ k x lt at same. absurd (omega arith)

pub loop-i-preserved : goal.loop-i-preserved
loop-i-preserved c =
    let e = c.args.edit.now in
    let xs = c.args.before.now in
    let i = c.loop-i.i in
    none_more (λ (x : Position). AreNamesakes e x.pred.0 c.args.position.pred.0 × (x.argument ≡ c.args.position.argument)) xs i (get_or xs i none) (there xs i none (omega arith)) c.loop-i.invariant
    (λ same. let right = c.is_same_position.ensures.1 same in let wrong = c.if-is_same_position.false in cc)

pub returns-then-is_same_position : goal.returns-then-is_same_position
returns-then-is_same_position c =
    let xs = c.args.before.now in
    let i = c.loop-i.i in
    let x = get_or xs i none in
    let same = c.is_same_position.ensures.0 c.if-is_same_position.true in
    let next : 1 + i ≡ i + 1 = omega arith in
    record {
      at = spelled x;
      number = subst (λ (n : ℕ). IsNumber 1 (map spelled xs) n (spelled x)) next (number_at 1 (map spelled xs) i (spelled x) (mapped_place spelled xs i x (there xs i none (omega arith))));
      named = same.0;
      argument = same.1;
    }

pub returns : goal.returns
returns c =
    let e = c.args.edit.now in
    let xs = c.args.before.now in
    let number = c.requires.there in
    let old = number.1 in
    let place = place_of_number 1 (map spelled xs) number.0 old.at old.number in
    let from = map_at spelled xs place.0 old.at place.1 in
    let x = from.0 in
    let below : place.0 < length xs = place_below xs place.0 x from.1 in
    let same : AreNamesakes e x.pred.0 c.args.position.pred.0 = ap (λ (z : Place). slice_get e.before.now.preds z.0) from.2 ∙ old.named in
    let argument : x.argument ≡ c.args.position.argument = ap (λ (z : Place). z.1) from.2 ∙ old.argument in
    absurd (c.loop-i.invariant place.0 x (omega arith) from.1 (same, argument))
