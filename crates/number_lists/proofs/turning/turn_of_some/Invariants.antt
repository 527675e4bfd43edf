use Rattle.std.proofs.Common.{◌≡◌, true, false, map}
use Rattle.number_turns.specs.Recalled.{spelled}
use Rattle.number_lists.specs.Coursing.{IsBlownAt, SomeRefuted, rest_of}
use Rattle.number_lists.proofs.turning.turn_of_some.Given as goal

abbrev pub invariant-loop-i : goal.invariant-loop-i
invariant-loop-i l = record {
  refuted : l.blown ≡ false → SomeRefuted (map spelled l.features) l.transitions l.gone l.i l.groups;
  blown : l.blown ≡ true → IsBlownAt (map spelled l.features) (rest_of l.transitions l.gone);
}
