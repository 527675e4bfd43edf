use Rattle.std.proofs.Common.{◌≡◌, ◌+◌, ◌≤◌, ◌∙◌, ap, arith, length, subst, sym, get_or, slice_get, None, Some, Option, ℕ}
use Rattle.std.specs.Prelude.{IfSome}
use Rattle.termination_model.proofs.Lists.{there}
use Rattle.solved_program.specs.Carried.{AreCarriedProofs}
use Rattle.solved_program.proofs.CarriedRows.{proofs_more}
use Rattle.solved_program.proofs.Comparisons.{kept_in}
use Rattle.solved_program.proofs.Resolved.{one_longer}
use Rattle.solved_program.proofs.carrying.carried_proofs.Goals as goal

pub carried_by-requires : goal.carried_by-requires
carried_by-requires c = go (get_or c.args.edit.now.kept.now c.loop-kept.kept-index None) (there c.args.edit.now.kept.now c.loop-kept.kept-index None c.loop-kept-test.true)
  where
    go : (o : Option ℕ) → slice_get c.args.edit.now.kept.now c.loop-kept.kept-index ≡ Some o → IfSome o (λ j. (1 ≤ j) × (j ≤ length c.args.proofs.now))
    go None at = tt
    go (Some j) at =
        let in_range = kept_in c.args.edit.now.before.now c.args.edit.now.after.now c.args.edit.now.kept.now c.requires.kept c.loop-kept.kept-index j at in
        let last = in_range.1 in
        let each = c.requires.each in
        (in_range.0, omega arith)

pub loop-kept-preserved : goal.loop-kept-preserved
loop-kept-preserved c =
    let kept = c.args.edit.now.kept.now in
    let proofs = c.args.proofs.now in
    let by = c.in_ok-by.by in
    let o = get_or kept c.loop-kept.kept-index None in
    let at : slice_get kept (length c.loop-kept.carried) ≡ Some o = ap (slice_get kept) c.loop-kept.invariant.each ∙ there kept c.loop-kept.kept-index None c.loop-kept-test.true in
    record {
      each = ap length c.in_ok-push.ensures.ok ∙ one_longer c.loop-kept.carried by ∙ ap (λ n. n + 1) c.loop-kept.invariant.each;
      same = subst (AreCarriedProofs kept proofs) (sym c.in_ok-push.ensures.ok) (proofs_more kept proofs c.loop-kept.carried by o at c.loop-kept.invariant.same c.in_ok-by.ensures);
    }
