use Rattle.std.proofs.Common.{◌≡◌, ◌<◌, ℕ, length, get_or, subst, arith}
use Rattle.cti_terms.specs.declared.predicates.PredId.{PredId}
use Rattle.termination_model.proofs.Lists.{there}
use Rattle.solved_program.proofs.MemberMarks.{AreMarkedUpTo, marked_all, marked_next, member_below}
use Rattle.carried_preconditions.specs.Resolving.{HasStayed}
use Rattle.carried_preconditions.proofs.standing.mark_stayed.Goals as goal

pub has_stayed-requires-clause-pred : goal.has_stayed-requires-clause-pred
has_stayed-requires-clause-pred g c =
    let e = c.args.sources.now.clauses.now.edit.now in
    let members = c.members-member-items.result.now in
    let n = c.loop-member.member-index in
    member_below e.after.now e.components.now c.requires.sources.clauses.edit.components c.args.c members c.members-member-items.ensures n (get_or members n (record { 0 = 0 })) (there members n (record { 0 = 0 }) c.loop-member-test.true)

pub bounds-stayed-place : goal.bounds-stayed-place
bounds-stayed-place g c =
    let e = c.args.sources.now.clauses.now.edit.now in
    let members = c.members-member-items.result.now in
    let n = c.loop-member.member-index in
    let lt = member_below e.after.now e.components.now c.requires.sources.clauses.edit.components c.args.c members c.members-member-items.ensures n (get_or members n (record { 0 = 0 })) (there members n (record { 0 = 0 }) c.loop-member-test.true) in
    omega (arith, lt, c.loop-member.invariant.each, c.requires.each)

pub loop-member-preserved : goal.loop-member-preserved
loop-member-preserved g c =
    let s = c.args.sources.now in
    let e = s.clauses.now.edit.now in
    let members = c.members-member-items.result.now in
    let n = c.loop-member.member-index in
    let a : PredId = get_or members n (record { 0 = 0 }) in
    let at = there members n (record { 0 = 0 }) c.loop-member-test.true in
    let below = member_below e.after.now e.components.now c.requires.sources.clauses.edit.components c.args.c members c.members-member-items.ensures n a at in
    let lt : a.0 < length c.loop-member.stayed = omega (arith, below, c.loop-member.invariant.each, c.requires.each) in
    marked_next (HasStayed s c.args.table.now c.args.allowed.now) members c.args.stayed.now n c.loop-member.stayed a c.has_stayed.result at lt c.has_stayed.ensures c.loop-member.invariant

pub returns : goal.returns
returns g c =
    let s = c.args.sources.now in
    let e = s.clauses.now.edit.now in
    let members = c.members-member-items.result.now in
    let end : c.loop-member.member-index ≡ length members = omega (arith, c.loop-member-test.false, c.loop-member.auto.member-index-end) in
    marked_all e.after.now e.components.now c.requires.sources.clauses.edit.components c.args.c members c.members-member-items.ensures
    (HasStayed s c.args.table.now c.args.allowed.now) c.args.stayed.now c.loop-member.stayed
    (subst (λ (n : ℕ). AreMarkedUpTo (HasStayed s c.args.table.now c.args.allowed.now) members c.args.stayed.now n c.loop-member.stayed) end c.loop-member.invariant)
