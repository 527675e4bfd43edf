use Rattle.std.proofs.Common.{◌≡◌, ◌+◌, ◌++◌, ◌∷◌, [], ◌∙◌, ap, arith, get_or, map, sym, subst, take, List}
use Rattle.level_systems.specs.Held.{spelled}
use Rattle.level_systems.specs.declared.position.Position.{Position}
use Rattle.termination_model.specs.mappings.OwnCalls.{Position as Place}
use Rattle.termination_model.proofs.Lists.{by_places, map_push, taken_more, there}
use Rattle.carried_mappings.specs.Reordered.{AreOldNumbers, HasOldNumber}
use Rattle.carried_mappings.proofs.Orders.{take_whole}
use Rattle.carried_mappings.proofs.Placing.{number_more}
use Rattle.carried_mappings.proofs.places.numbers_before.Goals as goal

abbrev none : Position
none = record { pred = record { 0 = 0 }; argument = 0 }

pub number_before-number-requires-clause-there : goal.number_before-number-requires-clause-there
number_before-number-requires-clause-there c =
    let e = c.args.edit.now in
    let xs = c.args.after.now in
    let i = c.loop-i.i in
    by_places (λ (x : Position). HasOldNumber e.before.now e.after.now (map spelled c.args.before.now) (spelled x)) xs c.requires.there i (get_or xs i none) (there xs i none (omega arith))

pub loop-i-preserved : goal.loop-i-preserved
loop-i-preserved c =
    let p = c.args.edit.now.before.now in
    let new = c.args.edit.now.after.now in
    let before : List Place = map spelled c.args.before.now in
    let xs = c.args.after.now in
    let i = c.loop-i.i in
    let x = get_or xs i none in
    let next : map spelled (take (i + 1) xs) ≡ map spelled (take i xs) ++ spelled x ∷ [] = ap (map spelled) (taken_more xs i x (there xs i none (omega arith))) ∙ map_push spelled (take i xs) x in
    subst (λ (ys : List Place). AreOldNumbers p new before ys c.push.new.self.items) (sym next)
    (subst (AreOldNumbers p new before (map spelled (take i xs) ++ spelled x ∷ [])) (sym c.in_ok-push.ensures.items)
    (number_more p new before (map spelled (take i xs)) c.loop-i.numbers.items (spelled x) c.number_before-number.result c.loop-i.invariant c.number_before-number.ensures))

pub returns-clause-numbers : goal.returns-clause-numbers
returns-clause-numbers c =
    let p = c.args.edit.now.before.now in
    let new = c.args.edit.now.after.now in
    subst (λ (xs : List Position). AreOldNumbers p new (map spelled c.args.before.now) (map spelled xs) c.loop-i.numbers.items) (take_whole c.args.after.now c.loop-i.i (omega arith)) c.loop-i.invariant
