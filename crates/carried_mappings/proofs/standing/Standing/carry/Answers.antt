use Rattle.std.proofs.Common.{◌∙◌, length, ap, sym, subst}
use Rattle.call_components.specs.Numbers.{number_of}
use Rattle.level_systems.specs.declared.found.Found.{Found}
use Rattle.carried_mappings.specs.Carrying.{CarriesOver, new_number}
use Rattle.carried_mappings.specs.Moved.{moved_found}
use Rattle.carried_mappings.specs.Order.{AreSameMappings, HaveSameOrder, named_by}
use Rattle.carried_mappings.proofs.Carries.{as_many_parts, carries, members_are, members_below, same_in_order}
use Rattle.carried_mappings.proofs.Renamed.{length_mapped}
use Rattle.carried_mappings.proofs.Orders.{named_length}
use Rattle.carried_mappings.proofs.Resolved.{if_ok_to}
use Rattle.carried_mappings.proofs.standing.Standing.carry.Goals as goal

pub have_same_names-requires-clause-before : goal.have_same_names-requires-clause-before
have_same_names-requires-clause-before c =
    let e = c.args.self.now.edit.now in
    members_below e.before.now e.components_before.now c.requires.standing.edit.components_before c.args.self.now.before c.members-before.result.now c.members-before.ensures

pub have_same_names-requires-clause-after : goal.have_same_names-requires-clause-after
have_same_names-requires-clause-after c =
    let e = c.args.self.now.edit.now in
    members_below e.after.now e.components.now c.requires.standing.edit.components c.args.self.now.after c.members-after.result.now c.members-after.ensures

-- nothing is moved where the members stand in another order
pub returns-then-not-have_same_names-clause-moved : goal.returns-then-not-have_same_names-clause-moved
returns-then-not-have_same_names-clause-moved c = λ order.
    let s = c.args.self.now in
    let e = s.edit.now in
    let old = members_are e.before.now e.components_before.now c.requires.standing.edit.components_before s.before c.members-before.result.now c.members-before.ensures in
    let new = members_are e.after.now e.components.now c.requires.standing.edit.components s.after c.members-after.result.now c.members-after.ensures in
    let right = c.have_same_names.ensures.1 (sym (ap (named_by e.before.now) old) ∙ order ∙ ap (named_by e.after.now) new) in
    let wrong = c.if-not-have_same_names.true in
    cc

pub moved_found-requires-clause-standing : goal.moved_found-requires-clause-standing
moved_found-requires-clause-standing c = c.requires.standing

pub moved_found-requires-clause-each : goal.moved_found-requires-clause-each
moved_found-requires-clause-each c =
    let s = c.args.self.now in
    let e = s.edit.now in
    let before = c.members-before.result.now in
    let after = c.members-after.result.now in
    let same = c.have_same_names.ensures.0 c.if-not-have_same_names.false in
    let old = members_are e.before.now e.components_before.now c.requires.standing.edit.components_before s.before before c.members-before.ensures in
    as_many_parts s (length after) c.args.found.now.mappings (ap length old ∙ length_mapped number_of before ∙ named_length e.before.now e.after.now before after same) c.requires.parts

pub returns-clause-carried : goal.returns-clause-carried
returns-clause-carried c =
    let s = c.args.self.now in
    let e = s.edit.now in
    let x = c.args.found.now in
    let before = c.members-before.result.now in
    let after = c.members-after.result.now in
    let same = c.have_same_names.ensures.0 c.if-not-have_same_names.false in
    let old = members_are e.before.now e.components_before.now c.requires.standing.edit.components_before s.before before c.members-before.ensures in
    let new = members_are e.after.now e.components.now c.requires.standing.edit.components s.after after c.members-after.ensures in
    let order : HaveSameOrder e s.before s.after = ap (named_by e.before.now) old ∙ same ∙ sym (ap (named_by e.after.now) new) in
    let carried = carries s c.requires.standing c.preds-old.ensures.sound c.preds-new.ensures.sound order x in
    if_ok_to _ (CarriesOver s x) (λ z is. subst (CarriesOver s x) (ap (λ qs. moved_found (new_number s) qs x) new ∙ sym is) carried) c.moved_found.result c.moved_found.ensures

pub returns-clause-moved : goal.returns-clause-moved
returns-clause-moved c = λ order.
    let s = c.args.self.now in
    let new = members_are s.edit.now.after.now s.edit.now.components.now c.requires.standing.edit.components s.after c.members-after.result.now c.members-after.ensures in
    if_ok_to _ _ (λ z is. is ∙ sym (ap (λ qs. moved_found (new_number s) qs c.args.found.now) new)) c.moved_found.result c.moved_found.ensures

pub returns-clause-mappings : goal.returns-clause-mappings
returns-clause-mappings c =
    let s = c.args.self.now in
    let e = s.edit.now in
    let x = c.args.found.now in
    let before = c.members-before.result.now in
    let after = c.members-after.result.now in
    let same = c.have_same_names.ensures.0 c.if-not-have_same_names.false in
    let old = members_are e.before.now e.components_before.now c.requires.standing.edit.components_before s.before before c.members-before.ensures in
    let new = members_are e.after.now e.components.now c.requires.standing.edit.components s.after after c.members-after.ensures in
    let order : HaveSameOrder e s.before s.after = ap (named_by e.before.now) old ∙ same ∙ sym (ap (named_by e.after.now) new) in
    let found = same_in_order s c.requires.standing c.preds-old.ensures.sound c.preds-new.ensures.sound c.requires.members order x c.requires.parts in
    if_ok_to _ (λ z. AreSameMappings e s.before x.mappings z.mappings)
    (λ z is. subst (λ w. AreSameMappings e s.before x.mappings w.mappings) (ap (λ qs. moved_found (new_number s) qs x) new ∙ sym is) found) c.moved_found.result c.moved_found.ensures

pub returns-clause-refutation : goal.returns-clause-refutation
returns-clause-refutation c = if_ok_to _ _ (λ z is. ap (λ (f : Found). f.refutation) is) c.moved_found.result c.moved_found.ensures
