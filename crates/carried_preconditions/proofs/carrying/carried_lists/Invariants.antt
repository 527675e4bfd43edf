use Rattle.std.proofs.Common.{◌≡◌, [], length}
use Rattle.solved_program.specs.Carried.{AreCarriedValues}
use Rattle.carried_preconditions.proofs.carrying.carried_lists.Given as goal

abbrev pub invariant-loop-q : goal.invariant-loop-q
invariant-loop-q l = record {
  each : length l.lists.items ≡ l.q;
  carried : AreCarriedValues l.edit l.old [] l.lists.items;
}
