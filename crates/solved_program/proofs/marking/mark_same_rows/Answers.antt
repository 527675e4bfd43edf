use Rattle.std.proofs.Common.{◌≡◌, ℕ, length, get_or, subst, arith}
use Rattle.termination_model.specs.sizes.Sizes.{rows_of}
use Rattle.termination_model.proofs.Lists.{there}
use Rattle.solved_program.proofs.MemberMarks.{AreMarkedUpTo, marked_all, member_below}
use Rattle.solved_program.proofs.marking.mark_same_rows.Goals as goal

pub get-requires : goal.get-requires
get-requires c =
    let e = c.args.edit.now in
    let members = c.members-member-items.result.now in
    let n = c.loop-member.member-index in
    let lt = member_below e.after.now e.components.now c.requires.edit.components c.args.c members c.members-member-items.ensures n (get_or members n (record { 0 = 0 })) (there members n (record { 0 = 0 }) c.loop-member-test.true) in
    omega (arith, lt, c.requires.rows.each)

pub bounds-stayed-place : goal.bounds-stayed-place
bounds-stayed-place c =
    let e = c.args.edit.now in
    let members = c.members-member-items.result.now in
    let n = c.loop-member.member-index in
    let lt = member_below e.after.now e.components.now c.requires.edit.components c.args.c members c.members-member-items.ensures n (get_or members n (record { 0 = 0 })) (there members n (record { 0 = 0 }) c.loop-member-test.true) in
    omega (arith, lt, c.loop-member.invariant.each, c.requires.each)

pub returns : goal.returns
returns c =
    let e = c.args.edit.now in
    let members = c.members-member-items.result.now in
    let end : c.loop-member.member-index ≡ length members = omega (arith, c.loop-member-test.false, c.loop-member.auto.member-index-end) in
    marked_all e.after.now e.components.now c.requires.edit.components c.args.c members c.members-member-items.ensures (λ r. rows_of c.args.rows.now r ≡ rows_of c.args.before.now r) c.args.stayed.now c.loop-member.stayed
    (subst (λ (n : ℕ). AreMarkedUpTo (λ r. rows_of c.args.rows.now r ≡ rows_of c.args.before.now r) members c.args.stayed.now n c.loop-member.stayed) end c.loop-member.invariant)
