use Rattle.std.proofs.Common.{◌≡◌, ◌<◌, ℕ, true, length, get_or, refl, subst, arith}
use Rattle.cti_terms.specs.declared.predicates.PredId.{PredId}
use Rattle.termination_model.proofs.Lists.{there}
use Rattle.solved_program.specs.Marks.{Always}
use Rattle.solved_program.proofs.MemberMarks.{AreMarkedUpTo, marked_all, marked_next, member_below}
use Rattle.solved_program.proofs.marking.mark_all.Goals as goal

pub bounds-stayed-member : goal.bounds-stayed-member
bounds-stayed-member c =
    let e = c.args.edit.now in
    let members = c.members-member-items.result.now in
    let n = c.loop-member.member-index in
    let lt = member_below e.after.now e.components.now c.requires.edit.components c.args.c members c.members-member-items.ensures n (get_or members n (record { 0 = 0 })) (there members n (record { 0 = 0 }) c.loop-member-test.true) in
    omega (arith, lt, c.loop-member.invariant.each, c.requires.each)

pub loop-member-preserved : goal.loop-member-preserved
loop-member-preserved c =
    let e = c.args.edit.now in
    let members = c.members-member-items.result.now in
    let n = c.loop-member.member-index in
    let a : PredId = get_or members n (record { 0 = 0 }) in
    let at = there members n (record { 0 = 0 }) c.loop-member-test.true in
    let below = member_below e.after.now e.components.now c.requires.edit.components c.args.c members c.members-member-items.ensures n (get_or members n (record { 0 = 0 })) (there members n (record { 0 = 0 }) c.loop-member-test.true) in
    let lt : a.0 < length c.loop-member.stayed = omega (arith, below, c.loop-member.invariant.each, c.requires.each) in
    marked_next Always members c.args.stayed.now n c.loop-member.stayed a true at lt (λ t. tt, λ h. refl) c.loop-member.invariant

pub returns : goal.returns
returns c =
    let e = c.args.edit.now in
    let members = c.members-member-items.result.now in
    let end : c.loop-member.member-index ≡ length members = omega (arith, c.loop-member-test.false, c.loop-member.auto.member-index-end) in
    marked_all e.after.now e.components.now c.requires.edit.components c.args.c members c.members-member-items.ensures Always c.args.stayed.now c.loop-member.stayed
    (subst (λ (n : ℕ). AreMarkedUpTo Always members c.args.stayed.now n c.loop-member.stayed) end c.loop-member.invariant)
