use Rattle.std.proofs.Common.{◌≡◌, ◌++◌, drop, length, take}
use Rattle.number_lists.specs.Tracking.{after_turns}
use Rattle.number_lists.proofs.tracking.add_turn.Given as goal

abbrev pub invariant-loop-i : goal.invariant-loop-i
invariant-loop-i l = record {
  long : length l.places.items ≡ length l.transitions;
  made : take l.i l.places.items ++ after_turns l.leave (drop l.i l.transitions) (drop l.i l.gone) l.left (drop l.i l.places.items) ≡ after_turns l.leave l.transitions l.gone l.multipliers l.fn.places.items;
}
