use Rattle.std.proofs.Common.{sym, subst, ◌∙◌}
use Rattle.lex_turns.specs.Found.{AreVoid, IsVoid, IsWithin}
use Rattle.lex_turns.proofs.Choosing.{more_void}
use Rattle.lex_turns.proofs.walking.void_sets.Goals.{in-Nothing+in_ok-push-in-Nothing, in-List, in-GivenUp}
use Rattle.lex_turns.proofs.walking.void_sets.Goals as goal

pub loop-number-preserved : goal.loop-number-preserved
loop-number-preserved c = λ size truth expression comps rows r h.
    let p = c.args.p.now in
    let before = c.loop-number.invariant size truth expression comps rows r h in
    let answer = c.in_ok-find_at.ensures.within size truth expression comps rows r h in
    elim c.match-branch-3.branch [
      | in-Nothing+in_ok-push-in-Nothing w ↦
          subst (AreVoid expression p comps rows r) (sym (w.sets-is ∙ w.in_ok-push-in-Nothing.ensures.ok))
          (more_void expression p comps rows r c.loop-number.sets c.in_ok-set.set before
          (subst (IsVoid expression p comps rows r) c.as_slice.ensures (subst (IsWithin expression p comps rows r c.as_slice.result.now) w.in-Nothing.is answer)))
      | in-List w ↦ subst (AreVoid expression p comps rows r) (sym w.sets-is) before
      | in-GivenUp w ↦ subst (AreVoid expression p comps rows r) (sym w.sets-is) before
    ]
