use Rattle.std.proofs.Common.{◌≡◌, ◌∙◌, get_or, slice_get, Some, ap, arith, sym}
use Rattle.termination_model.proofs.Lists.{there}
use Rattle.carried_mappings.specs.Carrying.{CarriesOver}
use Rattle.carried_mappings.specs.FoundMappings.{IsCarriedAt}
use Rattle.carried_mappings.proofs.Resolved.{carried_is, carry_kept, if_ok_to, members_same, standing_at, standing_is}
use Rattle.carried_mappings.proofs.resolving.MappingSources.carried.Goals as goal

pub carry-requires : goal.carry-requires
carry-requires c =
    let s = c.args.self.now in
    let b = c.args.before in
    let x = get_or s.found.now b c.index-self-before-2.result in
    let at_before : slice_get s.sources.own_before.now b ≡ Some c.as_slice-own_before.result.now =
    there s.sources.own_before.now b c.index-self-before.result (omega (arith, c.requires.sources.sources.own_before.each, c.requires.before)) ∙ ap Some (sym c.as_slice-own_before.ensures) in
    let at : slice_get s.sources.own.now c.args.c ≡ Some c.as_slice-own.result.now =
    there s.sources.own.now c.args.c c.index-self-c.result (omega (arith, c.requires.sources.sources.own.each, c.requires.inner)) ∙ ap Some (sym c.as_slice-own.ensures) in
    record {
      standing = standing_is s c.requires.sources b c.args.c c.requires.before c.requires.inner c.requires.stands c.as_slice-own_before.result c.as_slice-own.result at_before at;
      members = members_same s c.requires.sources b c.args.c c.requires.before c.requires.inner c.requires.stands c.as_slice-own_before.result c.as_slice-own.result at_before at
          c.preds-old.ensures.sound c.preds-new.ensures.sound;
      parts = c.requires.sources.parts b x (there s.found.now b c.index-self-before-2.result (omega (arith, c.requires.sources.each, c.requires.before)));
    }

pub returns-clause-carried : goal.returns-clause-carried
returns-clause-carried c =
    let s = c.args.self.now in
    let b = c.args.before in
    let x = get_or s.found.now b c.index-self-before-2.result in
    let found = there s.found.now b c.index-self-before-2.result (omega (arith, c.requires.sources.each, c.requires.before)) in
    let at_before : slice_get s.sources.own_before.now b ≡ Some c.as_slice-own_before.result.now =
    there s.sources.own_before.now b c.index-self-before.result (omega (arith, c.requires.sources.sources.own_before.each, c.requires.before)) ∙ ap Some (sym c.as_slice-own_before.ensures) in
    let at : slice_get s.sources.own.now c.args.c ≡ Some c.as_slice-own.result.now =
    there s.sources.own.now c.args.c c.index-self-c.result (omega (arith, c.requires.sources.sources.own.each, c.requires.inner)) ∙ ap Some (sym c.as_slice-own.ensures) in
    if_ok_to (CarriesOver (standing_at s b c.args.c c.as_slice-own_before.result c.as_slice-own.result) x) (IsCarriedAt s c.args.c)
    (λ y over. carried_is s c.requires.sources b c.args.c c.requires.before c.requires.inner c.requires.stands c.as_slice-own_before.result c.as_slice-own.result at_before at
    c.preds-old.ensures.sound c.preds-new.ensures.sound c.requires.recursive x y found over)
    c.carry.result c.carry.ensures.carried

pub returns-clause-kept : goal.returns-clause-kept
returns-clause-kept c =
    let s = c.args.self.now in
    let b = c.args.before in
    let x = get_or s.found.now b c.index-self-before-2.result in
    let found = there s.found.now b c.index-self-before-2.result (omega (arith, c.requires.sources.each, c.requires.before)) in
    let at_before : slice_get s.sources.own_before.now b ≡ Some c.as_slice-own_before.result.now =
    there s.sources.own_before.now b c.index-self-before.result (omega (arith, c.requires.sources.sources.own_before.each, c.requires.before)) ∙ ap Some (sym c.as_slice-own_before.ensures) in
    let at : slice_get s.sources.own.now c.args.c ≡ Some c.as_slice-own.result.now =
    there s.sources.own.now c.args.c c.index-self-c.result (omega (arith, c.requires.sources.sources.own.each, c.requires.inner)) ∙ ap Some (sym c.as_slice-own.ensures) in
    carry_kept s c.requires.sources b c.args.c c.requires.before c.requires.inner c.requires.stands c.as_slice-own_before.result c.as_slice-own.result at_before at
    c.preds-old.ensures.sound c.preds-new.ensures.sound x found c.carry.result c.carry.ensures.moved c.carry.ensures.mappings c.carry.ensures.refutation
