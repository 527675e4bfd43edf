use Rattle.std.proofs.Common.{◌≡◌, ◌++◌, drop}
use Rattle.number_turns.specs.Recalled.{held_of}
use Rattle.transitions.specs.Turns.{unmarked}
use Rattle.number_lists.proofs.tracking.with_kept.Given as goal

abbrev pub invariant-loop-i : goal.invariant-loop-i
invariant-loop-i l = held_of l.all.items ++ unmarked (drop l.i l.transitions) (drop l.i l.gone) ≡ held_of l.fn.rest.items ++ unmarked l.transitions l.gone
