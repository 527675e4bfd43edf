use Rattle.std.proofs.Common.{arith, refl}
use Rattle.termination_model.proofs.Lists.{place_below, there}
use Rattle.truth_rows.proofs.SetLaws.{none}
use Rattle.solved_program.proofs.CarriedValues.{value_none, value_some}
use Rattle.solved_program.proofs.grounds.carried_set.Goals as goal

pub returns-in-Some : goal.returns-in-Some
returns-in-Some c =
    let e = c.args.edit.now in
    let lt = place_below e.before.now.preds c.in-Some.before.0 c.pred-pred.result.now c.in-Some.ensures.found in
    value_some e c.args.old.now c.args.none c.preds-program.ensures.sound c.args.pred.0 c.in-Some.before.0 c.pred-pred.result.now _ c.pred-pred.ensures c.in-Some.ensures.found
    (there c.args.old.now c.in-Some.before.0 none (omega (arith, lt, c.requires.each)))

pub returns-in-None : goal.returns-in-None
returns-in-None c = value_none c.args.edit.now c.args.old.now c.args.none c.args.pred.0 c.pred-pred.result.now c.pred-pred.ensures (c.in-None.ensures.absent.0 refl)
