use Rattle.std.proofs.Common.{◌≡◌, refl, subst, sym}
use Rattle.solved_program.specs.Carried.{IsCarriedRow}
use Rattle.solved_program.proofs.CarriedRows.{carried_none, carried_some, if_ok_is}
use Rattle.solved_program.proofs.carrying.carried_row.Goals as goal

pub returns-in-Some : goal.returns-in-Some
returns-in-Some c =
    let p = c.args.edit.now.before.now in
    let new = c.args.edit.now.after.now in
    if_ok_is c.copy.result (λ r. r ≡ c.get.result.now) (IsCarriedRow p.preds new.preds c.args.rows.now c.args.pred.0)
    (λ r e. subst (IsCarriedRow p.preds new.preds c.args.rows.now c.args.pred.0) (sym e)
    (carried_some p new.preds c.preds-program.ensures.sound c.args.rows.now c.requires.rows c.args.pred.0 c.in-Some.before.0 c.pred-pred.result.now c.get.result.now c.pred-pred.ensures c.in-Some.ensures.found c.get.ensures)) c.copy.ensures

pub returns-in-None : goal.returns-in-None
returns-in-None c =
    let p = c.args.edit.now.before.now in
    let new = c.args.edit.now.after.now in
    carried_none p.preds new.preds c.args.rows.now c.args.pred.0 c.pred-pred.result.now c.new.result c.pred-pred.ensures c.new.ensures.width c.new.ensures.list (c.in-None.ensures.absent.0 refl)
