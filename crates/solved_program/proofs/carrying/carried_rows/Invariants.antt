use Rattle.std.proofs.Common.{◌≡◌, length}
use Rattle.solved_program.specs.Carried.{AreCarriedRows}
use Rattle.solved_program.proofs.carrying.carried_rows.Given as goal

abbrev pub invariant-loop-q : goal.invariant-loop-q
invariant-loop-q l = record {
  each : length l.carried ≡ l.q;
  rows : AreCarriedRows l.edit.before.now.preds l.edit.after.now.preds l.rows l.carried;
}
