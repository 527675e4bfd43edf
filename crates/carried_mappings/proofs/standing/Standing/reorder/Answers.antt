use Rattle.std.proofs.Common.{◌≡◌, ◌+◌, ◌<◌, ◌^◌, ◌∙◌, length, map, ap, sym, subst, List, ℕ}
use Rattle.call_components.specs.Numbers.{number_of}
use Rattle.level_systems.specs.Held.{spelled}
use Rattle.level_systems.specs.declared.found.Found.{Found}
use Rattle.carried_mappings.specs.Carrying.{CarriesOver}
use Rattle.carried_mappings.specs.Order.{AreSameMappings}
use Rattle.carried_mappings.specs.Reordered.{AreOldNumbers, ArePlaces}
use Rattle.carried_mappings.proofs.Carries.{carries_now, has_number, has_place, has_places, members_are, members_below, positions_below, same_now}
use Rattle.carried_mappings.proofs.Renamed.{length_mapped}
use Rattle.carried_mappings.proofs.Placing.{numbers_long, places_long}
use Rattle.carried_mappings.proofs.Resolved.{if_ok_to}
use Rattle.carried_mappings.proofs.standing.Standing.reorder.Goals as goal

pub places_before-requires-clause-before : goal.places_before-requires-clause-before
places_before-requires-clause-before c =
    let e = c.args.self.now.edit.now in
    members_below e.before.now e.components_before.now c.requires.standing.edit.components_before c.args.self.now.before c.members-members_before.result.now c.members-members_before.ensures

pub places_before-requires-clause-after : goal.places_before-requires-clause-after
places_before-requires-clause-after c =
    let e = c.args.self.now.edit.now in
    members_below e.after.now e.components.now c.requires.standing.edit.components c.args.self.now.after c.members-members.result.now c.members-members.ensures

pub places_before-requires-clause-there : goal.places_before-requires-clause-there
places_before-requires-clause-there c =
    let s = c.args.self.now in
    let e = s.edit.now in
    let before = c.members-members_before.result.now in
    let after = c.members-members.result.now in
    has_place s c.requires.standing c.preds-old.ensures.sound c.preds-new.ensures.sound c.requires.members before after
    (members_are e.before.now e.components_before.now c.requires.standing.edit.components_before s.before before c.members-members_before.ensures)
    (members_are e.after.now e.components.now c.requires.standing.edit.components s.after after c.members-members.ensures)

pub numbers_before-requires-clause-before : goal.numbers_before-requires-clause-before
numbers_before-requires-clause-before c =
    let s = c.args.self.now in
    let e = s.edit.now in
    positions_below e.before.now e.components_before.now c.requires.standing.edit.components_before s.before c.members-members_before.result.now c.members-members_before.ensures
    c.as_slice-stood.result.now (ap (map spelled) c.as_slice-stood.ensures.value ∙ c.in_ok-positions_before.ensures)

pub numbers_before-requires-clause-after : goal.numbers_before-requires-clause-after
numbers_before-requires-clause-after c =
    let s = c.args.self.now in
    let e = s.edit.now in
    positions_below e.after.now e.components.now c.requires.standing.edit.components s.after c.members-members.result.now c.members-members.ensures
    c.as_slice.result.now (ap (map spelled) c.as_slice.ensures.value ∙ c.in_ok-positions.ensures)

pub numbers_before-requires-clause-there : goal.numbers_before-requires-clause-there
numbers_before-requires-clause-there c =
    let s = c.args.self.now in
    has_number s c.requires.standing c.preds-old.ensures.sound c.preds-new.ensures.sound c.requires.members c.as_slice-stood.result.now c.as_slice.result.now
    (ap (map spelled) c.as_slice-stood.ensures.value ∙ c.in_ok-positions_before.ensures) (ap (map spelled) c.as_slice.ensures.value ∙ c.in_ok-positions.ensures)

pub found-requires-clause-reordered : goal.found-requires-clause-reordered
found-requires-clause-reordered c =
    let e = c.args.self.now.edit.now in
    let before = c.members-members_before.result.now in
    let after = c.members-members.result.now in
    let places = places_long e.before.now e.after.now (map number_of before) (map number_of after) c.in_ok-places.places.items c.in_ok-places.ensures in
    let numbers = numbers_long e.before.now e.after.now (map spelled c.as_slice-stood.result.now) (map spelled c.as_slice.result.now) c.in_ok-numbers.numbers.items c.in_ok-numbers.ensures.numbers in
    let long : length c.as_slice-3.result.now ≡ length c.as_slice.result.now = ap length c.as_slice-3.ensures.value ∙ numbers ∙ length_mapped spelled c.as_slice.result.now in
    record {
      standing = c.requires.standing;
      each = ap length c.as_slice-2.ensures.value ∙ places ∙ length_mapped number_of after;
      few_before = c.in_ok-numbers.ensures.few_before;
      few = subst (λ (n : ℕ). n + 1 < 2 ^ 32) (sym long) c.in_ok-numbers.ensures.few;
    }

pub found-requires-clause-places : goal.found-requires-clause-places
found-requires-clause-places c =
    let s = c.args.self.now in
    let e = s.edit.now in
    let before = c.members-members_before.result.now in
    let after = c.members-members.result.now in
    let are = members_are e.before.now e.components_before.now c.requires.standing.edit.components_before s.before before c.members-members_before.ensures in
    has_places s e.before.now e.after.now (map number_of after) c.as_slice-2.result.now c.args.found.now.mappings
    (subst (λ (z : List ℕ). ArePlaces e.before.now e.after.now z (map number_of after) c.as_slice-2.result.now) (sym are)
    (subst (ArePlaces e.before.now e.after.now (map number_of before) (map number_of after)) (sym c.as_slice-2.ensures.value) c.in_ok-places.ensures))
    c.requires.parts

pub returns-clause-carried : goal.returns-clause-carried
returns-clause-carried c =
    let s = c.args.self.now in
    let e = s.edit.now in
    let x = c.args.found.now in
    let before = c.members-members_before.result.now in
    let after = c.members-members.result.now in
    let carried = carries_now s c.requires.standing c.preds-old.ensures.sound c.preds-new.ensures.sound before after c.as_slice-stood.result.now c.as_slice.result.now
    (members_are e.before.now e.components_before.now c.requires.standing.edit.components_before s.before before c.members-members_before.ensures)
    (members_are e.after.now e.components.now c.requires.standing.edit.components s.after after c.members-members.ensures)
    (ap (map spelled) c.as_slice-stood.ensures.value ∙ c.in_ok-positions_before.ensures) (ap (map spelled) c.as_slice.ensures.value ∙ c.in_ok-positions.ensures)
    c.as_slice-2.result.now c.as_slice-3.result.now
    (subst (ArePlaces e.before.now e.after.now (map number_of before) (map number_of after)) (sym c.as_slice-2.ensures.value) c.in_ok-places.ensures)
    (subst (AreOldNumbers e.before.now e.after.now (map spelled c.as_slice-stood.result.now) (map spelled c.as_slice.result.now)) (sym c.as_slice-3.ensures.value) c.in_ok-numbers.ensures.numbers) x in
    if_ok_to _ (CarriesOver s x) (λ z is. subst (CarriesOver s x) (sym is) carried) c.found.result c.found.ensures

pub returns-clause-mappings : goal.returns-clause-mappings
returns-clause-mappings c =
    let s = c.args.self.now in
    let e = s.edit.now in
    let x = c.args.found.now in
    let before = c.members-members_before.result.now in
    let after = c.members-members.result.now in
    let same = same_now s c.requires.standing c.preds-old.ensures.sound c.preds-new.ensures.sound before after c.as_slice-stood.result.now c.as_slice.result.now
    (members_are e.before.now e.components_before.now c.requires.standing.edit.components_before s.before before c.members-members_before.ensures)
    (members_are e.after.now e.components.now c.requires.standing.edit.components s.after after c.members-members.ensures)
    (ap (map spelled) c.as_slice-stood.ensures.value ∙ c.in_ok-positions_before.ensures) (ap (map spelled) c.as_slice.ensures.value ∙ c.in_ok-positions.ensures)
    c.as_slice-2.result.now c.as_slice-3.result.now
    (subst (ArePlaces e.before.now e.after.now (map number_of before) (map number_of after)) (sym c.as_slice-2.ensures.value) c.in_ok-places.ensures)
    (subst (AreOldNumbers e.before.now e.after.now (map spelled c.as_slice-stood.result.now) (map spelled c.as_slice.result.now)) (sym c.as_slice-3.ensures.value) c.in_ok-numbers.ensures.numbers) x
    c.requires.members c.requires.parts in
    if_ok_to _ (λ z. AreSameMappings e s.before x.mappings z.mappings) (λ z is. subst (λ w. AreSameMappings e s.before x.mappings w.mappings) (sym is) same) c.found.result c.found.ensures

pub returns-clause-refutation : goal.returns-clause-refutation
returns-clause-refutation c = if_ok_to _ _ (λ z is. ap (λ (f : Found). f.refutation) is) c.found.result c.found.ensures
