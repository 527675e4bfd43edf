use Rattle.std.proofs.Common.{◌≡◌, length}
use Rattle.solved_program.specs.Carried.{AreCarriedProofs}
use Rattle.solved_program.proofs.carrying.carried_proofs.Given as goal

abbrev pub invariant-loop-kept : goal.invariant-loop-kept
invariant-loop-kept l = record {
  each : length l.carried ≡ l.kept-index;
  same : AreCarriedProofs l.edit.kept.now l.proofs l.carried;
}
