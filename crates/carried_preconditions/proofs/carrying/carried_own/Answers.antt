use Rattle.std.proofs.Common.{List, [], refl, subst, sym}
use Rattle.bool_diagrams.specs.declared.diagram.Diagram.{Diagram}
use Rattle.solved_program.specs.Carried.{IsCarriedValue}
use Rattle.solved_program.proofs.CarriedRows.{if_ok_is}
use Rattle.solved_program.proofs.CarriedValues.{value_none, value_some}
use Rattle.carried_preconditions.proofs.carrying.carried_own.Goals as goal

pub returns-in-Some : goal.returns-in-Some
returns-in-Some c =
    let e = c.args.edit.now in
    let own = value_some e c.args.old.now [] c.preds-program.ensures.sound c.args.pred.0 c.in-Some.before.0 c.pred-pred.result.now _ c.pred-pred.ensures c.in-Some.ensures.found c.get.ensures in
    if_ok_is c.copy.result _ _ (λ v is. subst (λ (xs : List Diagram). IsCarriedValue e c.args.old.now [] c.args.pred.0 xs) (sym is) own) c.copy.ensures

pub returns-in-None : goal.returns-in-None
returns-in-None c =
    subst (λ (xs : List Diagram). IsCarriedValue c.args.edit.now c.args.old.now [] c.args.pred.0 xs) (sym c.new.ensures)
    (value_none c.args.edit.now c.args.old.now [] c.args.pred.0 c.pred-pred.result.now c.pred-pred.ensures (c.in-None.ensures.absent.0 refl))
