use Rattle.std.proofs.Common.{◌≡◌, ◌↔◌, ◌∙◌, map, slice_get, Some, true, ap, refl, sym, arith}
use Rattle.precond_fixpoint.proofs.PlaceLaws.{items_at}
use Rattle.termination_model.proofs.Lists.{at_place, place_below, there}
use Rattle.truth_rows.proofs.SetLaws.{none}
use Rattle.solved_program.proofs.Comparisons.{refuted}
use Rattle.carried_preconditions.specs.Same.{coefficient_lists, coefficients_in, input_values}
use Rattle.carried_preconditions.proofs.Same.{same_none, same_rows, same_some, with_first, without_first}
use Rattle.carried_preconditions.proofs.comparing.is_kept.Goals as goal

pub returns-then-same : goal.returns-then-same
returns-then-same c =
    let e = c.args.edit.now in
    let T = c.args.table.now in
    let r = c.args.pred.0 in
    let q = c.in-Some.old.0 in
    let x = c.pred-own.result.now in
    let before = c.args.before.now in
    let now = c.args.now.now in
    let below = place_below e.before.now.preds q x c.in-Some.ensures.found in
    let first = same_rows e.before.now.preds e.after.now.preds T now.grounds.now before.grounds.now c.requires.now.grounds_are c.requires.before.grounds_are r q x c.pred-own.ensures c.in-Some.ensures.found _ _
    (there now.grounds.now r none (omega (arith, c.requires.pred, c.requires.now.grounds_are.each))) (there before.grounds.now q none (omega (arith, below, c.requires.before.grounds_are.each))) c.same.result c.same.ensures.rows in
    let xs = c.index-now-here.result in
    let ys = c.index-before-there.result in
    let mine : slice_get now.levels.now r ≡ Some xs = at_place now.levels.now r xs (omega (arith, c.requires.pred, c.requires.now.each)) c.index-now-here.is in
    let theirs : slice_get before.levels.now q ≡ Some ys = at_place before.levels.now q ys (omega (arith, below, c.requires.before.each)) c.index-before-there.is in
    let here = ap (map coefficients_in) (items_at now.levels.now r xs mine ∙ c.index-now-here.is ∙ sym c.as_slice.ensures) in
    let was = ap (map coefficients_in) (items_at before.levels.now q ys theirs ∙ c.index-before-there.is ∙ sym c.as_slice-then-same.ensures) in
    let second : (c.are_same_parts.result ≡ true) ↔ (coefficient_lists now.levels.now r ≡ coefficient_lists before.levels.now q) = (λ t. here ∙ c.are_same_parts.ensures.0 t ∙ sym was, λ h. c.are_same_parts.ensures.1 (sym here ∙ h ∙ was)) in
    same_some e (input_values e.before.now.preds T before) (input_values e.after.now.preds T now) c.preds-program.ensures.sound r q x c.are_same_parts.result c.pred-own.ensures c.in-Some.ensures.found
    (with_first c.are_same_parts.result _ _ _ _ (first.0 c.if-same.true) second)

pub returns-else-same : goal.returns-else-same
returns-else-same c =
    let e = c.args.edit.now in
    let T = c.args.table.now in
    let r = c.args.pred.0 in
    let q = c.in-Some.old.0 in
    let x = c.pred-own.result.now in
    let before = c.args.before.now in
    let now = c.args.now.now in
    let below = place_below e.before.now.preds q x c.in-Some.ensures.found in
    let first = same_rows e.before.now.preds e.after.now.preds T now.grounds.now before.grounds.now c.requires.now.grounds_are c.requires.before.grounds_are r q x c.pred-own.ensures c.in-Some.ensures.found _ _
    (there now.grounds.now r none (omega (arith, c.requires.pred, c.requires.now.grounds_are.each))) (there before.grounds.now q none (omega (arith, below, c.requires.before.grounds_are.each))) c.same.result c.same.ensures.rows in
    same_some e (input_values e.before.now.preds T before) (input_values e.after.now.preds T now) c.preds-program.ensures.sound r q x c.same.result c.pred-own.ensures c.in-Some.ensures.found
    (without_first c.same.result _ _ _ _ c.if-same.false (λ g. refuted (first.1 g) c.if-same.false))

pub returns-in-None : goal.returns-in-None
returns-in-None c =
    let e = c.args.edit.now in
    let T = c.args.table.now in
    same_none e (input_values e.before.now.preds T c.args.before.now) (input_values e.after.now.preds T c.args.now.now) c.args.pred.0 c.pred-own.result.now c.pred-own.ensures (c.in-None.ensures.absent.0 refl)
