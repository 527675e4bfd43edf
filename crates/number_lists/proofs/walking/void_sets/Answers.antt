use Rattle.std.proofs.Common.{map, sym, subst, ◌∙◌}
use Rattle.number_turns.specs.Recalled.{recalled}
use Rattle.number_lists.specs.Found.{AreVoid, IsVoid}
use Rattle.number_lists.proofs.VoidSets.{more_void}
use Rattle.number_lists.proofs.walking.void_sets.Goals.{then-branch+in_ok-push, else-branch}
use Rattle.number_lists.proofs.walking.void_sets.Goals as goal

pub loop-number-preserved : goal.loop-number-preserved
loop-number-preserved c = λ width are.
    let x = c.args.system.now in
    let members = x.members.now in
    let positions = x.positions.now in
    let τs = map recalled x.transitions.now in
    let before = c.loop-number.invariant width are in
    elim c.if-branch.branch [
      | then-branch+in_ok-push w ↦
          subst (AreVoid members positions τs width) (sym (w.sets-is ∙ w.in_ok-push.ensures.ok))
          (more_void members positions τs width c.loop-number.sets c.in_ok-set.set before
          (subst (IsVoid members positions τs width) c.as_slice.ensures (c.in_ok-is_void.ensures w.if-branch.true width are)))
      | else-branch w ↦ subst (AreVoid members positions τs width) (sym w.sets-is) before
    ]
