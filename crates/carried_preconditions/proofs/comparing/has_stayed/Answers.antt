use Rattle.std.proofs.Common.{◌↔◌, IsTrue, List, slice_index_or, refl, subst, arith}
use Rattle.bool_diagrams.specs.Rows.{HaveSameRows}
use Rattle.bool_diagrams.specs.declared.diagram.Diagram.{Diagram}
use Rattle.termination_model.proofs.Lists.{place_below, there}
use Rattle.truth_rows.proofs.SetLaws.{none}
use Rattle.solved_program.proofs.Comparisons.{refuted}
use Rattle.carried_preconditions.specs.Solved.{rows_with}
use Rattle.carried_preconditions.proofs.Same.{same_none, same_rows, same_some, with_first, without_first}
use Rattle.carried_preconditions.proofs.comparing.has_stayed.Goals as goal

pub returns-then-same : goal.returns-then-same
returns-then-same c =
    let e = c.args.edit.now in
    let T = c.args.table.now in
    let r = c.args.pred.0 in
    let q = c.in-Some.old.0 in
    let x = c.pred-own.result.now in
    let before = c.args.before.now in
    let below = place_below e.before.now.preds q x c.in-Some.ensures.found in
    let first = same_rows e.before.now.preds e.after.now.preds T c.args.inputs.now.grounds.now before.inputs.grounds.now c.requires.grounds c.requires.before r q x c.pred-own.ensures c.in-Some.ensures.found _ _
    (there c.args.inputs.now.grounds.now r none (omega (arith, c.requires.pred, c.requires.grounds.each))) (there before.inputs.grounds.now q none (omega (arith, below, c.requires.before.each))) c.same.result c.same.ensures.rows in
    let rows : IsTrue c.same-then-same.result ↔ HaveSameRows T (slice_index_or c.args.allowed.now r none) (slice_index_or before.solved.now.allowed q none) =
    subst (λ (xs : List Diagram). IsTrue c.same-then-same.result ↔ HaveSameRows T (slice_index_or c.args.allowed.now r none) (slice_index_or xs q none)) c.as_slice.ensures c.same-then-same.ensures.rows in
    let second = same_rows e.before.now.preds e.after.now.preds T c.args.allowed.now before.solved.now.allowed c.requires.allowed c.requires.old r q x c.pred-own.ensures c.in-Some.ensures.found _ _
    (there c.args.allowed.now r none (omega (arith, c.requires.pred, c.requires.allowed.each))) (there before.solved.now.allowed q none (omega (arith, below, c.requires.old.each))) c.same-then-same.result rows in
    same_some e (rows_with e.before.now.preds T before.inputs before.solved.now.allowed) (rows_with e.after.now.preds T c.args.inputs.now c.args.allowed.now) c.preds-program.ensures.sound r q x c.same-then-same.result c.pred-own.ensures c.in-Some.ensures.found
    (with_first c.same-then-same.result _ _ _ _ (first.0 c.if-same.true) second)

pub returns-else-same : goal.returns-else-same
returns-else-same c =
    let e = c.args.edit.now in
    let T = c.args.table.now in
    let r = c.args.pred.0 in
    let q = c.in-Some.old.0 in
    let x = c.pred-own.result.now in
    let before = c.args.before.now in
    let below = place_below e.before.now.preds q x c.in-Some.ensures.found in
    let first = same_rows e.before.now.preds e.after.now.preds T c.args.inputs.now.grounds.now before.inputs.grounds.now c.requires.grounds c.requires.before r q x c.pred-own.ensures c.in-Some.ensures.found _ _
    (there c.args.inputs.now.grounds.now r none (omega (arith, c.requires.pred, c.requires.grounds.each))) (there before.inputs.grounds.now q none (omega (arith, below, c.requires.before.each))) c.same.result c.same.ensures.rows in
    same_some e (rows_with e.before.now.preds T before.inputs before.solved.now.allowed) (rows_with e.after.now.preds T c.args.inputs.now c.args.allowed.now) c.preds-program.ensures.sound r q x c.same.result c.pred-own.ensures c.in-Some.ensures.found
    (without_first c.same.result _ _ _ _ c.if-same.false (λ g. refuted (first.1 g) c.if-same.false))

pub returns-in-None : goal.returns-in-None
returns-in-None c =
    let e = c.args.edit.now in
    let T = c.args.table.now in
    let before = c.args.before.now in
    same_none e (rows_with e.before.now.preds T before.inputs before.solved.now.allowed) (rows_with e.after.now.preds T c.args.inputs.now c.args.allowed.now) c.args.pred.0 c.pred-own.result.now c.pred-own.ensures (c.in-None.ensures.absent.0 refl)
