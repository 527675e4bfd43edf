use Rattle.std.proofs.Common.{◌≡◌, ◌<◌, ℕ, length, get_or, subst, arith}
use Rattle.cti_terms.specs.declared.predicates.PredId.{PredId}
use Rattle.termination_model.proofs.Lists.{there}
use Rattle.truth_rows.specs.Sets.{family_of}
use Rattle.truth_rows.proofs.SetLaws.{none}
use Rattle.solved_program.proofs.GroundRows.{same_places}
use Rattle.solved_program.proofs.MemberMarks.{AreMarkedUpTo, marked_all, marked_next, member_below}
use Rattle.solved_program.proofs.marking.mark_same_sets.Goals as goal

pub bounds-sets-place : goal.bounds-sets-place
bounds-sets-place c =
    let e = c.args.edit.now in
    let members = c.members-member-items.result.now in
    let n = c.loop-member.member-index in
    let lt = member_below e.after.now e.components.now c.requires.edit.components c.args.c members c.members-member-items.ensures n (get_or members n (record { 0 = 0 })) (there members n (record { 0 = 0 }) c.loop-member-test.true) in
    omega (arith, lt, c.requires.sets.each)

pub bounds-before-place : goal.bounds-before-place
bounds-before-place c =
    let e = c.args.edit.now in
    let members = c.members-member-items.result.now in
    let n = c.loop-member.member-index in
    let lt = member_below e.after.now e.components.now c.requires.edit.components c.args.c members c.members-member-items.ensures n (get_or members n (record { 0 = 0 })) (there members n (record { 0 = 0 }) c.loop-member-test.true) in
    omega (arith, lt, c.requires.before.each)

pub same-requires-clause-left : goal.same-requires-clause-left
same-requires-clause-left c =
    let e = c.args.edit.now in
    let members = c.members-member-items.result.now in
    let n = c.loop-member.member-index in
    let a : PredId = get_or members n (record { 0 = 0 }) in
    let lt = member_below e.after.now e.components.now c.requires.edit.components c.args.c members c.members-member-items.ensures n a (there members n (record { 0 = 0 }) c.loop-member-test.true) in
    c.requires.sets.known a.0 _ (there c.args.sets.now a.0 none (omega (arith, lt, c.requires.sets.each)))

pub same-requires-clause-right : goal.same-requires-clause-right
same-requires-clause-right c =
    let e = c.args.edit.now in
    let members = c.members-member-items.result.now in
    let n = c.loop-member.member-index in
    let a : PredId = get_or members n (record { 0 = 0 }) in
    let lt = member_below e.after.now e.components.now c.requires.edit.components c.args.c members c.members-member-items.ensures n a (there members n (record { 0 = 0 }) c.loop-member-test.true) in
    c.requires.before.known a.0 _ (there c.args.before.now a.0 none (omega (arith, lt, c.requires.before.each)))

pub bounds-stayed-place : goal.bounds-stayed-place
bounds-stayed-place c =
    let e = c.args.edit.now in
    let members = c.members-member-items.result.now in
    let n = c.loop-member.member-index in
    let lt = member_below e.after.now e.components.now c.requires.edit.components c.args.c members c.members-member-items.ensures n (get_or members n (record { 0 = 0 })) (there members n (record { 0 = 0 }) c.loop-member-test.true) in
    omega (arith, lt, c.loop-member.invariant.each, c.requires.each)

pub loop-member-preserved : goal.loop-member-preserved
loop-member-preserved c =
    let e = c.args.edit.now in
    let preds = e.after.now.preds in
    let T = c.args.table.now in
    let sets = c.args.sets.now in
    let before = c.args.before.now in
    let members = c.members-member-items.result.now in
    let n = c.loop-member.member-index in
    let a : PredId = get_or members n (record { 0 = 0 }) in
    let at = there members n (record { 0 = 0 }) c.loop-member-test.true in
    let below = member_below e.after.now e.components.now c.requires.edit.components c.args.c members c.members-member-items.ensures n a at in
    let lt : a.0 < length c.loop-member.stayed = omega (arith, below, c.loop-member.invariant.each, c.requires.each) in
    let here = there sets a.0 none (omega (arith, below, c.requires.sets.each)) in
    let was = there before a.0 none (omega (arith, below, c.requires.before.each)) in
    marked_next (λ r. family_of preds T sets r ≡ family_of preds T before r) members c.args.stayed.now n c.loop-member.stayed a c.same.result at lt
    (same_places preds T sets before c.requires.sets c.requires.before a.0 below _ _ here was c.same.result c.same.ensures.rows) c.loop-member.invariant

pub returns : goal.returns
returns c =
    let e = c.args.edit.now in
    let members = c.members-member-items.result.now in
    let end : c.loop-member.member-index ≡ length members = omega (arith, c.loop-member-test.false, c.loop-member.auto.member-index-end) in
    marked_all e.after.now e.components.now c.requires.edit.components c.args.c members c.members-member-items.ensures
    (λ r. family_of e.after.now.preds c.args.table.now c.args.sets.now r ≡ family_of e.after.now.preds c.args.table.now c.args.before.now r) c.args.stayed.now c.loop-member.stayed
    (subst (λ (n : ℕ). AreMarkedUpTo (λ r. family_of e.after.now.preds c.args.table.now c.args.sets.now r ≡ family_of e.after.now.preds c.args.table.now c.args.before.now r) members c.args.stayed.now n c.loop-member.stayed) end c.loop-member.invariant)
