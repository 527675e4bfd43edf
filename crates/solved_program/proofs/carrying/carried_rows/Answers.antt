use Rattle.std.proofs.Common.{◌+◌, ◌∙◌, ap, arith, length, subst, sym}
use Rattle.solved_program.specs.Carried.{AreCarriedRows, IsCarriedRow}
use Rattle.solved_program.proofs.CarriedRows.{rows_more}
use Rattle.solved_program.proofs.Resolved.{one_longer}
use Rattle.solved_program.proofs.carrying.carried_rows.Goals as goal

pub loop-q-preserved : goal.loop-q-preserved
loop-q-preserved c =
    let preds = c.args.edit.now.before.now.preds in
    let new_preds = c.args.edit.now.after.now.preds in
    let rows = c.args.rows.now in
    let own = c.in_ok-own.own in
    let is : IsCarriedRow preds new_preds rows (length c.loop-q.carried) own = subst (λ n. IsCarriedRow preds new_preds rows n own) (sym c.loop-q.invariant.each) c.in_ok-own.ensures in
    record {
      each = ap length c.in_ok-push.ensures.ok ∙ one_longer c.loop-q.carried own ∙ ap (λ n. n + 1) c.loop-q.invariant.each;
      rows = subst (AreCarriedRows preds new_preds rows) (sym c.in_ok-push.ensures.ok) (rows_more preds new_preds rows c.loop-q.carried own c.loop-q.invariant.rows is);
    }

pub returns-clause-each : goal.returns-clause-each
returns-clause-each c = omega (arith, c.loop-q.invariant.each, c.preds-q-end.ensures.count, c.loop-q-test.false, c.loop-q.auto.q-end)

pub returns-clause-rows : goal.returns-clause-rows
returns-clause-rows c = c.loop-q.invariant.rows
