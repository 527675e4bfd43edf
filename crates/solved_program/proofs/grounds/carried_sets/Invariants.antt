use Rattle.std.proofs.Common.{◌≡◌, length}
use Rattle.solved_program.specs.Carried.{AreCarriedValues}
use Rattle.solved_program.proofs.grounds.carried_sets.Given as goal

abbrev pub invariant-loop-q : goal.invariant-loop-q
invariant-loop-q l = record {
  each : length l.sets.items ≡ l.q;
  carried : AreCarriedValues l.edit l.old l.none l.sets.items;
}
