use Rattle.std.proofs.Common.{◌≡◌, ◌<◌, ◌+◌, ◌++◌, ◌∷◌, [], List, Bool, Some, slice_get, slice_set, true, false, length, map, ap, sym, subst, ◌∙◌, arith}
use Rattle.termination_model.proofs.Lists.{mapped_place}
use Rattle.number_turns.specs.Recalled.{recalled, spelled}
use Rattle.number_turns.specs.Turning.{IsTurned}
use Rattle.number_lists.specs.Coursing.{SomeRefuted, rest_of}
use Rattle.number_lists.specs.Grouping.{group_at}
use Rattle.number_lists.specs.declared.group.Group.{Group}
use Rattle.number_lists.proofs.Steps.{blown_here, refuted_more, refuted_skip}
use Rattle.number_lists.proofs.Tracked.{element, gone_at}
use Rattle.number_lists.proofs.turning.turn_of_some.Goals.{in-Refuted+in_ok-group_of-in-Refuted+in_ok-push-in-Refuted, in-Blown}
use Rattle.number_lists.proofs.turning.turn_of_some.Goals as goal

pub loop-i-preserved-then-gone-i : goal.loop-i-preserved-then-gone-i
loop-i-preserved-then-gone-i c =
    let τs = c.args.transitions.now in
    let gone = c.args.gone.now in
    let i = c.loop-i.i in
    let lt : i < length τs = omega arith in
    let at : slice_get gone i ≡ Some true = gone_at gone i true (omega (arith, c.requires.gone)) c.if-gone-i.true in
    record {
      refuted = λ e. refuted_skip c.args.features.now τs gone i c.loop-i.groups lt at (c.loop-i.invariant.refuted e);
      blown = c.loop-i.invariant.blown;
    }

pub returns-in-Found : goal.returns-in-Found
returns-in-Found c =
    let τs = c.args.transitions.now in
    let gone = c.args.gone.now in
    let i = c.loop-i.i in
    let lt : i < length τs = c.loop-i-test.true in
    let at = element τs i lt in
    let here : slice_get gone i ≡ Some false = gone_at gone i false (omega (arith, c.requires.gone, lt)) c.if-gone-i.false in
    let left = c.as_slice.ensures.value ∙ c.in_ok-left.ensures in
    let turned = subst (λ (gs : List Bool). IsTurned (map spelled c.args.features.now) (recalled at.0 ∷ rest_of τs gs) (true ∷ []) c.in_ok-turned.turned) left (c.in_ok-turned.ensures (recalled at.0) (mapped_place recalled τs i at.0 at.1)) in
    record {
      place = i;
      first = at.0;
      there = at.1;
      here = here;
      found = c.in-Found.found;
      is = subst (IsTurned (map spelled c.args.features.now) (recalled at.0 ∷ rest_of τs (slice_set gone i true)) (true ∷ [])) c.in-Found.is turned;
      made = c.in_ok-made-in-Found.ensures;
    }

pub loop-i-preserved : goal.loop-i-preserved
loop-i-preserved c =
    let τs = c.args.transitions.now in
    let gone = c.args.gone.now in
    let fs = map spelled c.args.features.now in
    let i = c.loop-i.i in
    let lt : i < length τs = c.loop-i-test.true in
    let at = element τs i lt in
    let here : slice_get gone i ≡ Some false = gone_at gone i false (omega (arith, c.requires.gone, lt)) c.if-gone-i.false in
    let left = c.as_slice.ensures.value ∙ c.in_ok-left.ensures in
    let turned = subst (λ (gs : List Bool). IsTurned fs (recalled at.0 ∷ rest_of τs gs) (true ∷ []) c.in_ok-turned.turned) left (c.in_ok-turned.ensures (recalled at.0) (mapped_place recalled τs i at.0 at.1)) in
    elim c.match-turned.branch [
      | in-Refuted+in_ok-group_of-in-Refuted+in_ok-push-in-Refuted w ↦ record {
        refuted = λ e.
            let ms = w.in-Refuted.by in
            let before = c.loop-i.invariant.refuted (sym w.blown-is ∙ e) in
            let is = subst (IsTurned fs (recalled at.0 ∷ rest_of τs (slice_set gone i true)) (true ∷ [])) w.in-Refuted.is turned in
            let group = w.in_ok-group_of-in-Refuted.ensures at.0 at.1 ∙ (λ j. group_at i at.0 τs ((w.as_slice-in-Refuted.ensures.value ∙ c.in_ok-left.ensures) j) (w.as_slice-in-Refuted-2.ensures j)) in
            subst (SomeRefuted fs τs gone (i + 1)) (sym (w.groups-is ∙ w.in_ok-push-in-Refuted.ensures.ok ∙ ap (λ (g : Group). c.loop-i.groups ++ g ∷ []) group))
            (refuted_more c.args.features.now τs gone i at.0 ms c.loop-i.groups c.requires.gone at.1 here is before);
        blown = λ e. c.loop-i.invariant.blown (sym w.blown-is ∙ e);
      }
      | in-Blown w ↦ record {
        refuted = λ e. let never : true ≡ false = sym w.blown-is ∙ e in cc;
        blown = λ e. blown_here c.args.features.now τs gone i at.0 at.1 here (subst (IsTurned fs (recalled at.0 ∷ rest_of τs (slice_set gone i true)) (true ∷ [])) w.in-Blown.is turned);
      }
    ]
