use Rattle.std.proofs.Common.{◌≡◌, ◌+◌, ◌≤◌, ◌++◌, ◌∷◌, [], suc, true, length, map, slice_get, get_or, Some, ap, sym, subst, ◌∙◌, arith}
use Rattle.termination_model.specs.grounds.Modes.{is_part}
use Rattle.termination_model.proofs.Lists.{there}
use Rattle.level_systems.specs.Found.{without_number}
use Rattle.level_dual.proofs.LargeLaws.{part_without, place_in, set_once}
use Rattle.number_turns.specs.Recalled.{recalled}
use Rattle.number_lists.specs.Found.{IsChosen, IsWithin}
use Rattle.number_lists.specs.FoundLists.{MayBeMissing, support_of_list}
use Rattle.number_lists.specs.Large.{AreTried}
use Rattle.number_lists.specs.declared.measure_list.MeasureList.{MeasureList}
use Rattle.number_lists.proofs.HeldSupports.{held_support}
use Rattle.number_lists.proofs.ListSupports.{list_sets}
use Rattle.number_lists.proofs.SparePositions.{all_tried, given_up_too, void_too}
use Rattle.number_lists.proofs.large.leave_out.Goals.{in-List+in_ok-smaller-in-List+else-len-support+in_ok-push-in-List, in-Nothing, in-GivenUp+in_ok-push-in-GivenUp}
use Rattle.number_lists.proofs.large.leave_out.Goals as goal

pub returns-then-len-support-clause-left_out : goal.returns-then-len-support-clause-left_out
returns-then-len-support-clause-left_out c = λ width are once.
    let x = c.args.system.now in
    let τs = map recalled x.transitions.now in
    let t = c.as_slice.result.now in
    let found = subst (IsWithin x.members.now x.positions.now τs width t) c.in-List.is (c.in_ok-other.ensures.within width are) in
    let chosen = subst (IsChosen x.members.now x.positions.now τs width t) c.in-List.is (c.in_ok-other.ensures.chosen width are) in
    record { list = found.list; has = found.has; single = λ long. (t, found.part, chosen long) }

pub loop-number-preserved : goal.loop-number-preserved
loop-number-preserved c = λ width are once.
    let x = c.args.system.now in
    let members = x.members.now in
    let positions = x.positions.now in
    let τs = map recalled x.transitions.now in
    let s = c.args.support.now in
    let k = c.loop-number.number-index in
    let i = get_or s k 0 in
    let at : slice_get s k ≡ Some i = there s k 0 c.loop-number-test.true in
    let before = c.loop-number.invariant width are once in
    let answer = c.in_ok-other.ensures.within width are in
    let chosen = c.in_ok-other.ensures.chosen width are in
    let set : c.in_ok-set.set ≡ without_number i s = c.in_ok-set.ensures in
    let slice : c.as_slice.result.now ≡ without_number i s = c.as_slice.ensures ∙ set in
    elim c.match-branch-3.branch [
      | in-List+in_ok-smaller-in-List+else-len-support+in_ok-push-in-List w ↦
          subst (AreTried members positions τs width s (k + 1)) (sym (w.blown-is ∙ w.in_ok-push-in-List.ensures.ok ∙ ap (λ t. c.loop-number.blown ++ t ∷ []) set))
          (given_up_too members positions τs width s k i at c.loop-number.blown before once (absurd (
          let l : MeasureList = w.in-List.other in
          let u = support_of_list members positions τs width l in
          let found = subst (IsWithin members positions τs width c.as_slice.result.now) w.in-List.is answer in
          let same : w.in_ok-smaller-in-List.smaller.items ≡ u = w.in_ok-smaller-in-List.ensures ∙ held_support members positions τs width l.mappings are.columns found.list.shaped in
          let less = part_without i s u (place_in s k i at) (set_once 1 (suc (length positions)) u (list_sets members positions τs u found.has))
          (subst (λ t. is_part u t ≡ true) slice found.part) in
          omega (arith, less, w.if-len-support.false, w.len.ensures, ap length same))))
      | in-Nothing w ↦
          subst (AreTried members positions τs width s (k + 1)) (sym w.blown-is)
          (let nothing = subst (IsWithin members positions τs width (without_number i s)) w.in-Nothing.is (subst (λ t. IsWithin members positions τs width t c.in_ok-other.field-0) slice answer) in
          void_too members positions τs width s k i at c.loop-number.blown before nothing.1)
      | in-GivenUp+in_ok-push-in-GivenUp w ↦
          subst (AreTried members positions τs width s (k + 1)) (sym (w.blown-is ∙ w.in_ok-push-in-GivenUp.ensures.ok ∙ ap (λ t. c.loop-number.blown ++ t ∷ []) set))
          (given_up_too members positions τs width s k i at c.loop-number.blown before once
          (subst (MayBeMissing members positions τs) slice (
            subst (IsWithin members positions τs width c.as_slice.result.now) w.in-GivenUp.is answer,
            subst (IsChosen members positions τs width c.as_slice.result.now) w.in-GivenUp.is chosen,
          )))
    ]

pub returns-clause-left_out : goal.returns-clause-left_out
returns-clause-left_out c = λ width are once.
    let x = c.args.system.now in
    let k = c.loop-number.number-index in
    let s = c.args.support.now in
    let done : length s ≤ k = omega (arith, c.loop-number-test.false) in
    all_tried x.members.now x.positions.now (map recalled x.transitions.now) width s k c.loop-number.blown done (c.loop-number.invariant width are once)
