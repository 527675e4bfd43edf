use Rattle.std.proofs.Common.{rules, ◌≡◌, ◌-◌, ℕ, ℤ, pos, List, drop, get_or, length, slice_get, slice_index_or, take, Some, ap, ◌∙◌, arith, below_more, FitsSigned}
use Rattle.std.specs.Int.{w128}
use Rattle.std.proofs.lemmas.Int.{to_z-of_z}
use Rattle.exact128.specs.Sums.{entry}
use Rattle.cti_terms.specs.declared.predicates.PredId.{PredId}
use Rattle.termination_model.proofs.Lists.{one_element, there}
use Rattle.level_systems.proofs.ValueLaws.{member_value, no_member_value, rest_whole}
use Rattle.level_systems.proofs.values.offset_at.Goals as goal

pub returns-then-members-i : goal.returns-then-members-i
returns-then-members-i c = λ os l e.
    let members = c.args.members.now in
    let i = c.loop-i.i in
    let x : PredId = get_or members i (record { 0 = 0 }) in
    let at : slice_get members i ≡ Some x = there members i (record { 0 = 0 }) c.loop-i-test.true in
    let values : take (length c.as_slice.result.now - c.args.before) (drop c.args.before c.as_slice.result.now) ≡ drop c.args.before c.args.values.now =
    rest_whole c.as_slice.result.now c.args.before ∙ ap (drop c.args.before) c.as_slice.ensures in
    let f : FitsSigned w128 (slice_index_or (take (length c.as_slice.result.now - c.args.before) (drop c.args.before c.as_slice.result.now)) i (pos 0)) = search rules in
    simp to_z-of_z (ap (λ (xs : List ℤ). entry xs i) values ∙ member_value members (drop c.args.before c.args.values.now) i c.args.pred.0 x c.requires.apart at c.if-members-i.true c.loop-i-test.true os l e)

pub loop-i-preserved : goal.loop-i-preserved
loop-i-preserved c =
    let members = c.args.members.now in
    let i = c.loop-i.i in
    let x : PredId = get_or members i (record { 0 = 0 }) in
    let at : slice_get members i ≡ Some x = there members i (record { 0 = 0 }) c.loop-i-test.true in
    below_more (λ (j : ℕ). (y : PredId) → slice_get members j ≡ Some y → y.0 ≡ c.args.pred.0 → ⊥) i c.loop-i.invariant (λ y ey e.
    c.if-members-i.false (ap (λ (z : PredId). z.0) (one_element members i x y at ey) ∙ e))

pub returns : goal.returns
returns c = λ os l e. no_member_value c.args.members.now c.args.pred.0 (λ j lt x at s. c.loop-i.invariant j (omega (arith, lt)) x at s) os
