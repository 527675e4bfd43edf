use Rattle.std.proofs.Common.{◌≡◌, ◌-◌, ◌++◌, ◌∷◌, [], ℕ, List, take, get_or, slice_get, Some, true, sym, subst, arith}
use Rattle.termination_model.proofs.Lists.{place_below, taken_more, there}
use Rattle.level_dual.specs.Vanishing.{AreUnlisted}
use Rattle.level_dual.proofs.VanishLaws.{cleared, still_unlisted}
use Rattle.level_dual.proofs.vanishing.unlisted.Goals.{then-number-gt0+then-number-len, else-number-gt0, else-number-gt0-via-then-number-gt0+else-number-len, else-number-gt0-via-else-number-gt0}
use Rattle.level_dual.proofs.vanishing.unlisted.Goals as goal

pub loop-number-preserved : goal.loop-number-preserved
loop-number-preserved c =
    let set = c.args.set.now in
    let i = c.loop-number.number-index in
    let x = get_or set i 0 in
    let marks = c.loop-number.marks.items in
    let at : slice_get set i ≡ Some x = there set i 0 c.loop-number-test.true in
    subst (λ (ys : List ℕ). AreUnlisted c.if-number-gt0.marks.items ys) (sym (taken_more set i x at))
    (elim c.if-number-gt0.branch [
      | then-number-gt0+then-number-len w ↦
          subst (λ t. AreUnlisted t.items (take i set ++ x ∷ [])) (sym w.marks-is)
          (cleared marks (take i set) x (x - 1) c.loop-number.invariant (omega (arith, w.if-number-gt0.true)) (omega (arith, w.if-number-gt0.true, w.if-number-len.true, w.len.ensures)))
      | else-number-gt0 w ↦
          subst (λ t. AreUnlisted t.items (take i set ++ x ∷ [])) (sym w.marks-is)
          (still_unlisted marks (take i set) x c.loop-number.invariant (λ k marked e. elim w.else-number-gt0.branch [
            | else-number-gt0-via-then-number-gt0+else-number-len w' ↦ omega (arith, place_below marks k true marked, w'.if-number-len.false, w'.len.ensures, e)
            | else-number-gt0-via-else-number-gt0 w' ↦ omega (arith, w'.if-number-gt0.false, e)
          ]))
    ])
