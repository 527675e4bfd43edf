use Rattle.std.proofs.Common.{◌≡◌, ◌∙◌, ◌↔◌, ◌+◌, ◌-◌, ℕ, Bool, IsTrue, length, slice_get, Some, ap, subst, arith}
use Rattle.linear_rows.specs.Showing.{AreMultipliers}
use Rattle.number_columns.specs.ColumnLists.{plain_columns}
use Rattle.number_turns.specs.Recalled.{recalled}
use Rattle.termination_model.proofs.Lists.{at_place, by_places}
use Rattle.transition_tests.specs.Drops.{IsDropped, IsShownAt, level_by}
use Rattle.transition_tests.specs.Shape.{IsPartOf}
use Rattle.transition_tests.proofs.DropLists.{DropFrom, if_ok_more, last_so, more_so, not_last, not_more}
use Rattle.transition_tests.proofs.dropping.drops_at.Goals.{After-index-heads-last, After-index-calls-last, After-index-drops-last, After-index-heads-i, After-index-calls-i, After-index-drops-i}
use Rattle.transition_tests.proofs.dropping.drops_at.Goals as goal

-- the measure that the loop is at
module _ (c : After-index-drops-i) where
  head_at : slice_get c.args.heads.now c.loop-i.i ≡ Some c.index-heads-i.result
  head_at = at_place c.args.heads.now c.loop-i.i c.index-heads-i.result (omega (arith, c.requires.parts.few_heads, c.requires.parts.some)) c.index-heads-i.is

  call_at : slice_get c.args.calls.now c.loop-i.i ≡ Some c.index-calls-i.result
  call_at = at_place c.args.calls.now c.loop-i.i c.index-calls-i.result (omega (arith, c.requires.parts.few_calls, c.requires.parts.some)) c.index-calls-i.is

  by_at : slice_get c.args.drops.now c.loop-i.i ≡ Some c.index-drops-i.result
  by_at = at_place c.args.drops.now c.loop-i.i c.index-drops-i.result (omega (arith, c.requires.parts.some)) c.index-drops-i.is

-- the last one
module _ (c : After-index-drops-last) where
  last_head : slice_get c.args.heads.now (length c.args.drops.now - 1) ≡ Some c.index-heads-last.result
  last_head = at_place c.args.heads.now (length c.args.drops.now - 1) c.index-heads-last.result (omega (arith, c.requires.parts.few_heads, c.requires.parts.some)) c.index-heads-last.is

  last_call : slice_get c.args.calls.now (length c.args.drops.now - 1) ≡ Some c.index-calls-last.result
  last_call = at_place c.args.calls.now (length c.args.drops.now - 1) c.index-calls-last.result (omega (arith, c.requires.parts.few_calls, c.requires.parts.some)) c.index-calls-last.is

  last_by : slice_get c.args.drops.now (length c.args.drops.now - 1) ≡ Some c.index-drops-last.result
  last_by = at_place c.args.drops.now (length c.args.drops.now - 1) c.index-drops-last.result (omega (arith, c.requires.parts.some)) c.index-drops-last.is

  at_last : c.loop-i.i ≡ length c.args.drops.now - 1
  at_last = omega (arith, c.loop-i-test.false, c.loop-i.auto.i-end)

  so_far : IsDropped (recalled c.args.transition.now) c.args.heads.now c.args.calls.now c.args.drops.now c.args.floor.now
      ↔ DropFrom (recalled c.args.transition.now) c.args.heads.now c.args.calls.now c.args.drops.now c.args.floor.now (length c.args.drops.now - 1)
  so_far = subst (λ (n : ℕ). IsDropped (recalled c.args.transition.now) c.args.heads.now c.args.calls.now c.args.drops.now c.args.floor.now ↔ DropFrom (recalled c.args.transition.now) c.args.heads.now c.args.calls.now c.args.drops.now c.args.floor.now n) at_last c.loop-i.invariant

  count : length c.args.drops.now - 1 + 1 ≡ length c.args.drops.now
  count = omega (arith, c.requires.parts.some)

pub loop-i-init : goal.loop-i-init
loop-i-init c = (λ h. h, λ h. h)

pub fall_shown-requires-clause-joined : goal.fall_shown-requires-clause-joined
fall_shown-requires-clause-joined c = ap plain_columns c.as_slice-joined.ensures ∙ c.in_ok-columns.ensures

pub fall_shown-requires-clause-head : goal.fall_shown-requires-clause-head
fall_shown-requires-clause-head c =
    let here = (goal.at.fall_shown-requires-clause-head c).After-index-drops-i in
    by_places (IsPartOf (length c.args.transition.now.head.columns)) c.args.heads.now c.requires.parts.head_parts c.loop-i.i c.index-heads-i.result (head_at here)

pub fall_shown-requires-clause-call : goal.fall_shown-requires-clause-call
fall_shown-requires-clause-call c =
    let here = (goal.at.fall_shown-requires-clause-call c).After-index-drops-i in
    by_places (IsPartOf (length c.args.transition.now.call.columns)) c.args.calls.now c.requires.parts.call_parts c.loop-i.i c.index-calls-i.result (call_at here)

pub fall_shown-requires-clause-multipliers : goal.fall_shown-requires-clause-multipliers
fall_shown-requires-clause-multipliers c =
    let here = (goal.at.fall_shown-requires-clause-multipliers c).After-index-drops-i in
    by_places (AreMultipliers (length c.args.transition.now.rows.list)) c.args.drops.now c.requires.parts.multipliers c.loop-i.i c.index-drops-i.result (by_at here)

pub returns-then-not-branch : goal.returns-then-not-branch
returns-then-not-branch c =
    let here = (goal.at.returns-then-not-branch c).After-index-drops-i in
    let τ = recalled c.args.transition.now in (
      λ no. cc,
      λ all. absurd (not_more τ c.args.heads.now c.args.calls.now c.args.drops.now c.args.floor.now c.loop-i.i c.index-heads-i.result c.index-calls-i.result c.index-drops-i.result (head_at here) (call_at here) (by_at here)
          (omega (arith, c.loop-i-test.true)) c.loop-i.invariant (λ shown. let yes = c.in_ok-fall_shown.ensures.1 shown in let no = c.if-not-branch.true in cc) all),
    )

pub loop-i-preserved : goal.loop-i-preserved
loop-i-preserved c =
    let here = (goal.at.loop-i-preserved c).After-index-drops-i in
    let τ = recalled c.args.transition.now in
    more_so τ c.args.heads.now c.args.calls.now c.args.drops.now c.args.floor.now c.loop-i.i c.index-heads-i.result c.index-calls-i.result c.index-drops-i.result (head_at here) (call_at here) (by_at here)
    (omega (arith, c.loop-i-test.true)) c.loop-i.invariant (c.in_ok-fall_shown.ensures.0 c.if-not-branch.false)

pub returns-then-not-branch-2 : goal.returns-then-not-branch-2
returns-then-not-branch-2 c =
    let here = (goal.at.returns-then-not-branch-2 c).After-index-drops-last in
    let τ = recalled c.args.transition.now in (
      λ no. cc,
      λ all. absurd (not_last τ c.args.heads.now c.args.calls.now c.args.drops.now c.args.floor.now (length c.args.drops.now - 1) c.index-heads-last.result c.index-calls-last.result c.index-drops-last.result (last_head here) (last_call here) (last_by here)
          (count here) (so_far here) (λ shown. let yes = c.in_ok-fall_shown-2.ensures.1 shown in let no = c.if-not-branch-2.true in cc) all),
    )

pub returns : goal.returns
returns c =
    let here = (goal.at.returns c).After-index-drops-last in
    let τ = recalled c.args.transition.now in
    let level = IsShownAt τ (level_by τ.vars τ.head_columns c.index-heads-last.result) c.args.floor.now in
    let whole = IsDropped τ c.args.heads.now c.args.calls.now c.args.drops.now c.args.floor.now in
    if_ok_more (λ (yes : Bool). IsTrue yes ↔ level) (λ (yes : Bool). IsTrue yes ↔ whole)
    (λ yes h. last_so τ c.args.heads.now c.args.calls.now c.args.drops.now c.args.floor.now (length c.args.drops.now - 1) c.index-heads-last.result c.index-calls-last.result c.index-drops-last.result (last_head here) (last_call here) (last_by here)
    (count here) (so_far here) (c.in_ok-fall_shown-2.ensures.0 c.if-not-branch-2.false) (IsTrue yes) h)
    c.level_shown.result c.level_shown.ensures
