use Rattle.std.proofs.Common.{◌≡◌, ◌<◌, ℕ, get_or, length, slice_get, Some, refl, subst, arith}
use Rattle.cti_terms.specs.declared.predicates.PredId.{PredId}
use Rattle.termination_model.proofs.Lists.{there}
use Rattle.solved_program.proofs.MemberMarks.{member_below, own_member}
use Rattle.carried_preconditions.specs.Same.{IsSameAs, input_values}
use Rattle.carried_preconditions.proofs.Same.{each_member, one_more}
use Rattle.carried_preconditions.proofs.comparing.are_kept.Goals as goal

pub is_kept-requires-clause-pred : goal.is_kept-requires-clause-pred
is_kept-requires-clause-pred c =
    let e = c.args.edit.now in
    let members = c.members-member-items.result.now in
    let n = c.loop-member.member-index in
    member_below e.after.now e.components.now c.requires.edit.components c.args.c members c.members-member-items.ensures n (get_or members n (record { 0 = 0 })) (there members n (record { 0 = 0 }) c.loop-member-test.true)

pub loop-member-preserved : goal.loop-member-preserved
loop-member-preserved c =
    let e = c.args.edit.now in
    let members = c.members-member-items.result.now in
    let n = c.loop-member.member-index in
    let a : PredId = get_or members n (record { 0 = 0 }) in
    let at = there members n (record { 0 = 0 }) c.loop-member-test.true in
    one_more (IsSameAs e (input_values e.before.now.preds c.args.table.now c.args.before.now) (input_values e.after.now.preds c.args.table.now c.args.now.now)) members n a at
    (c.is_kept.ensures.0 c.if-not-is_kept.false) c.loop-member.invariant

pub returns-then-not-is_kept : goal.returns-then-not-is_kept
returns-then-not-is_kept c = (
  λ t. cc,
  λ all.
      let e = c.args.edit.now in
      let members = c.members-member-items.result.now in
      let n = c.loop-member.member-index in
      let a : PredId = get_or members n (record { 0 = 0 }) in
      let at = there members n (record { 0 = 0 }) c.loop-member-test.true in
      let right = c.is_kept.ensures.1 (all a.0 (own_member e.after.now e.components.now c.requires.edit.components c.args.c members c.members-member-items.ensures n a at)) in
      let wrong = c.if-not-is_kept.true in
      cc,
)

pub returns : goal.returns
returns c = (
  λ t.
      let e = c.args.edit.now in
      let members = c.members-member-items.result.now in
      let end : c.loop-member.member-index ≡ length members = omega (arith, c.loop-member-test.false, c.loop-member.auto.member-index-end) in
      let P : ℕ → Type 0 = IsSameAs e (input_values e.before.now.preds c.args.table.now c.args.before.now) (input_values e.after.now.preds c.args.table.now c.args.now.now) in
      each_member P members e.after.now e.components.now c.requires.edit.components c.args.c c.members-member-items.ensures
      (subst (λ (n : ℕ). (j : ℕ) (x : PredId) → j < n → slice_get members j ≡ Some x → P x.0) end c.loop-member.invariant),
  λ all. refl,
)
