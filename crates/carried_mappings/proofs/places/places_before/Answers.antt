use Rattle.std.proofs.Common.{◌≡◌, ◌+◌, ◌++◌, ◌∷◌, [], ◌∙◌, ap, arith, get_or, map, sym, subst, take, List, ℕ}
use Rattle.call_components.specs.Numbers.{number_of}
use Rattle.cti_terms.specs.declared.predicates.PredId.{PredId}
use Rattle.termination_model.proofs.Lists.{by_places, map_push, taken_more, there}
use Rattle.carried_mappings.specs.Reordered.{ArePlaces, HasPlace}
use Rattle.carried_mappings.proofs.Orders.{take_whole}
use Rattle.carried_mappings.proofs.Placing.{place_more}
use Rattle.carried_mappings.proofs.places.places_before.Goals as goal

abbrev none : PredId
none = record { 0 = 0 }

pub place_before-place-requires-clause-there : goal.place_before-place-requires-clause-there
place_before-place-requires-clause-there c =
    let e = c.args.edit.now in
    let rs = c.args.after.now in
    let i = c.loop-i.i in
    by_places (λ (r : PredId). HasPlace e.before.now e.after.now (map number_of c.args.before.now) r.0) rs c.requires.there i (get_or rs i none) (there rs i none (omega arith))

pub loop-i-preserved : goal.loop-i-preserved
loop-i-preserved c =
    let p = c.args.edit.now.before.now in
    let new = c.args.edit.now.after.now in
    let before : List ℕ = map number_of c.args.before.now in
    let rs = c.args.after.now in
    let i = c.loop-i.i in
    let r = get_or rs i none in
    let next : map number_of (take (i + 1) rs) ≡ map number_of (take i rs) ++ r.0 ∷ [] = ap (map number_of) (taken_more rs i r (there rs i none (omega arith))) ∙ map_push number_of (take i rs) r in
    subst (λ (qs : List ℕ). ArePlaces p new before qs c.push.new.self.items) (sym next)
    (subst (ArePlaces p new before (map number_of (take i rs) ++ r.0 ∷ [])) (sym c.in_ok-push.ensures.items)
    (place_more p new before (map number_of (take i rs)) c.loop-i.places.items r.0 c.place_before-place.result c.loop-i.invariant c.place_before-place.ensures))

pub returns : goal.returns
returns c =
    let p = c.args.edit.now.before.now in
    let new = c.args.edit.now.after.now in
    subst (λ (qs : List PredId). ArePlaces p new (map number_of c.args.before.now) (map number_of qs) c.loop-i.places.items) (take_whole c.args.after.now c.loop-i.i (omega arith)) c.loop-i.invariant
