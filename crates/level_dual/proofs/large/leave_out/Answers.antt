use Rattle.std.proofs.Common.{◌≡◌, ◌+◌, ◌≤◌, ◌++◌, ◌∷◌, [], suc, true, List, length, map, slice_get, get_or, Some, ap, sym, subst, ◌∙◌, arith}
use Rattle.termination_model.specs.grounds.Minimal.{IsExcluded}
use Rattle.termination_model.specs.grounds.Modes.{is_part}
use Rattle.termination_model.specs.mappings.ComponentViews.{HasSupportIn, positions_in}
use Rattle.termination_model.proofs.Lists.{there}
use Rattle.level_systems.specs.Found.{IsBlownSet, without_number}
use Rattle.level_systems.specs.Held.{spelled}
use Rattle.level_dual.specs.Large.{AreTried}
use Rattle.level_systems.specs.Mappings.{support_of}
use Rattle.level_systems.specs.Searched.{IsAnswer}
use Rattle.level_systems.specs.declared.mapping.Mapping.{Mapping}
use Rattle.level_systems.specs.declared.position.Position.{Position}
use Rattle.level_dual.proofs.LargeLaws.{all_tried, excluded_too, given_up_too, part_without, place_in, set_once}
use Rattle.level_dual.proofs.WalkLaws.{sets_in}
use Rattle.level_dual.proofs.large.leave_out.Goals.{in-Mapping+in_ok-smaller-in-Mapping+else-len-support+in_ok-push-in-Mapping, in-Refuted, in-Blown+in_ok-push-in-Blown}
use Rattle.level_dual.proofs.large.leave_out.Goals as goal

pub loop-number-preserved : goal.loop-number-preserved
loop-number-preserved c = λ size truth expression comps rows r h once.
    let p = c.args.p.now in
    let s = c.args.support.now in
    let k = c.loop-number.number-index in
    let i = get_or s k 0 in
    let at : slice_get s k ≡ Some i = there s k 0 c.loop-number-test.true in
    let (before, known) = c.loop-number.invariant size truth expression comps rows r h once in
    let answer = c.in_ok-mapping.ensures.answer size truth expression comps rows r h known in
    let later = c.search_unless_excluded.ensures.known size truth expression comps rows r h known in
    let set : c.in_ok-set.set ≡ without_number i s = c.in_ok-set.ensures in
    let slice : c.as_slice.result.now ≡ without_number i s = c.as_slice.ensures ∙ set in (
      elim c.match-branch-3.branch [
        | in-Mapping+in_ok-smaller-in-Mapping+else-len-support+in_ok-push-in-Mapping w ↦
            subst (AreTried expression p comps rows r s (k + 1)) (sym (w.blown-is ∙ w.in_ok-push-in-Mapping.ensures.ok ∙ ap (λ t. c.loop-number.blown ++ t ∷ []) set))
            (given_up_too expression p comps rows r s k i at c.loop-number.blown before once (absurd (
            let x = c.args.component.now in
            let m : Mapping = w.in-Mapping.mapping in
            let u = support_of (positions_in p comps r) m in
            let found = subst (IsAnswer expression p comps rows r c.as_slice.result.now) w.in-Mapping.is answer in
            let same : w.in_ok-smaller-in-Mapping.smaller.items ≡ u =
            w.in_ok-smaller-in-Mapping.ensures ∙ ap (λ (ps : List Position). support_of (map spelled ps) m) w.as_slice-in-Mapping.ensures.value ∙ ap (λ ps. support_of ps m) h.positions in
            let less = part_without i s u (place_in s k i at) (set_once 1 (suc (length (positions_in p comps r))) u (sets_in size truth expression p comps rows r x h u found.has))
            (subst (λ t. is_part u t ≡ true) slice found.part) in
            omega (arith, less, w.if-len-support.false, w.len.ensures, ap length same))))
        | in-Refuted w ↦
            subst (AreTried expression p comps rows r s (k + 1)) (sym w.blown-is)
            (excluded_too expression p comps rows r s k i at c.loop-number.blown before
            (subst (IsExcluded (HasSupportIn expression p comps rows r)) slice (subst (IsAnswer expression p comps rows r c.as_slice.result.now) w.in-Refuted.is answer)))
        | in-Blown+in_ok-push-in-Blown w ↦
            subst (AreTried expression p comps rows r s (k + 1)) (sym (w.blown-is ∙ w.in_ok-push-in-Blown.ensures.ok ∙ ap (λ t. c.loop-number.blown ++ t ∷ []) set))
            (given_up_too expression p comps rows r s k i at c.loop-number.blown before once
            (subst (IsBlownSet expression p comps rows r) slice (subst (IsAnswer expression p comps rows r c.as_slice.result.now) w.in-Blown.is answer)))
      ],
      later,
    )

pub returns-clause-left_out : goal.returns-clause-left_out
returns-clause-left_out c = λ size truth expression comps rows r h once.
    let k = c.loop-number.number-index in
    let s = c.args.support.now in
    let done : length s ≤ k = omega (arith, c.loop-number-test.false) in
    all_tried expression c.args.p.now comps rows r s k c.loop-number.blown done (c.loop-number.invariant size truth expression comps rows r h once).0
