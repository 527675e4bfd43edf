use Rattle.std.proofs.Common.{◌≡◌, ◌+◌, ◌≤◌, ◌++◌, ◌∷◌, [], suc, true, List, length, map, slice_get, get_or, Some, ap, sym, subst, ◌∙◌, arith}
use Rattle.termination_model.specs.mappings.ComponentViews.{positions_in}
use Rattle.termination_model.specs.grounds.Modes.{is_part}
use Rattle.termination_model.proofs.Lists.{there}
use Rattle.level_systems.specs.Found.{without_number}
use Rattle.level_systems.specs.Held.{spelled}
use Rattle.level_systems.specs.declared.position.Position.{Position}
use Rattle.level_dual.proofs.LargeLaws.{part_without, place_in, set_once}
use Rattle.lex_turns.specs.Found.{IsChosen, IsVoid, IsWithin}
use Rattle.lex_turns.specs.FoundLists.{MayBeMissing, support_of_list}
use Rattle.lex_turns.specs.Large.{AreTried}
use Rattle.lex_turns.specs.declared.measure_list.MeasureList.{MeasureList}
use Rattle.lex_turns.proofs.ListSupports.{list_sets}
use Rattle.lex_turns.proofs.SparePositions.{all_tried, given_up_too, void_too}
use Rattle.lex_turns.proofs.large.leave_out.Goals.{in-List+in_ok-smaller-in-List+else-len-support+in_ok-push-in-List, in-Nothing, in-GivenUp+in_ok-push-in-GivenUp}
use Rattle.lex_turns.proofs.large.leave_out.Goals as goal

pub loop-number-preserved : goal.loop-number-preserved
loop-number-preserved c = λ size truth expression comps rows r h once.
    let p = c.args.p.now in
    let x = c.args.component.now in
    let s = c.args.support.now in
    let k = c.loop-number.number-index in
    let i = get_or s k 0 in
    let at : slice_get s k ≡ Some i = there s k 0 c.loop-number-test.true in
    let before = c.loop-number.invariant size truth expression comps rows r h once in
    let answer = c.in_ok-other.ensures.within size truth expression comps rows r h in
    let chosen = c.in_ok-other.ensures.chosen size truth expression comps rows r h in
    let set : c.in_ok-set.set ≡ without_number i s = c.in_ok-set.ensures in
    let slice : c.as_slice.result.now ≡ without_number i s = c.as_slice.ensures ∙ set in
    elim c.match-branch-3.branch [
      | in-List+in_ok-smaller-in-List+else-len-support+in_ok-push-in-List w ↦
          subst (AreTried expression p comps rows r s (k + 1)) (sym (w.blown-is ∙ w.in_ok-push-in-List.ensures.ok ∙ ap (λ t. c.loop-number.blown ++ t ∷ []) set))
          (given_up_too expression p comps rows r s k i at c.loop-number.blown before once (absurd (
          let l : MeasureList = w.in-List.other in
          let u = support_of_list (positions_in p comps r) l in
          let found = subst (IsWithin expression p comps rows r c.as_slice.result.now) w.in-List.is answer in
          let same : w.in_ok-smaller-in-List.smaller.items ≡ u =
          w.in_ok-smaller-in-List.ensures ∙ ap (λ (ps : List Position). support_of_list (map spelled ps) l) w.as_slice-in-List.ensures.value ∙ ap (λ ps. support_of_list ps l) h.positions in
          let less = part_without i s u (place_in s k i at) (set_once 1 (suc (length (positions_in p comps r))) u (list_sets expression p comps rows r u found.has))
          (subst (λ t. is_part u t ≡ true) slice found.part) in
          omega (arith, less, w.if-len-support.false, w.len.ensures, ap length same))))
      | in-Nothing w ↦
          subst (AreTried expression p comps rows r s (k + 1)) (sym w.blown-is)
          (void_too expression p comps rows r s k i at c.loop-number.blown before
          (subst (IsVoid expression p comps rows r) slice (subst (IsWithin expression p comps rows r c.as_slice.result.now) w.in-Nothing.is answer)))
      | in-GivenUp+in_ok-push-in-GivenUp w ↦
          subst (AreTried expression p comps rows r s (k + 1)) (sym (w.blown-is ∙ w.in_ok-push-in-GivenUp.ensures.ok ∙ ap (λ t. c.loop-number.blown ++ t ∷ []) set))
          (given_up_too expression p comps rows r s k i at c.loop-number.blown before once
          (subst (MayBeMissing expression p comps rows r) slice (
            subst (IsWithin expression p comps rows r c.as_slice.result.now) w.in-GivenUp.is answer,
            subst (IsChosen expression p comps rows r c.as_slice.result.now) w.in-GivenUp.is chosen,
          )))
    ]

pub returns-clause-left_out : goal.returns-clause-left_out
returns-clause-left_out c = λ size truth expression comps rows r h once.
    let k = c.loop-number.number-index in
    let s = c.args.support.now in
    let done : length s ≤ k = omega (arith, c.loop-number-test.false) in
    all_tried expression c.args.p.now comps rows r s k c.loop-number.blown done (c.loop-number.invariant size truth expression comps rows r h once)
