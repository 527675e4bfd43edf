use Rattle.std.proofs.Common.{◌∙◌, ap, refl, sym}
use Rattle.termination_model.specs.sizes.Sizes.{plain_or_none, rows_of}
use Rattle.solved_program.proofs.PredMarks.{mark_none, mark_some}
use Rattle.solved_program.proofs.marking.has_stayed.Goals as goal

pub returns-in-Some : goal.returns-in-Some
returns-in-Some c =
    let e = c.args.edit.now in
    let now = ap plain_or_none c.get.ensures in
    let before = ap plain_or_none c.get-in-Some.ensures in
    mark_some e (rows_of c.args.before.now) (rows_of c.args.rows.now) c.preds-program.ensures.sound c.args.pred.0 c.in-Some.old.0 c.pred-own.result.now c.are_same_rows.result c.pred-own.ensures c.in-Some.ensures.found
    (λ t. now ∙ c.are_same_rows.ensures.0 t ∙ sym before, λ h. c.are_same_rows.ensures.1 (sym now ∙ h ∙ before))

pub returns-in-None : goal.returns-in-None
returns-in-None c = mark_none c.args.edit.now (rows_of c.args.before.now) (rows_of c.args.rows.now) c.args.pred.0 c.pred-own.result.now _ c.pred-own.ensures (c.in-None.ensures.absent.0 refl)
