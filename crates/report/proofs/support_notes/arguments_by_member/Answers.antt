use Rattle.std.proofs.Common.{◌≡◌, ◌<◌, ℕ, Some, get_or, length, map, slice_get}
use Rattle.call_components.specs.Numbers.{number_of}
use Rattle.cti_terms.specs.declared.predicates.PredId.{PredId}
use Rattle.termination_model.proofs.Lists.{by_places, mapped_place, there}
use Rattle.report.proofs.support_notes.arguments_by_member.Goals as goal

pub pred-requires : goal.pred-requires
pred-requires c =
    let members = c.args.members.now in
    let i = c.loop-member.member-index in
    let x : PredId = get_or members i (record { 0 = 0 }) in
    let at : slice_get members i ≡ Some x = there members i (record { 0 = 0 }) c.loop-member-test.true in
    by_places (λ (q : ℕ). q < length c.args.p.now.preds) (map number_of members) c.requires.members i x.0 (mapped_place number_of members i x at)
