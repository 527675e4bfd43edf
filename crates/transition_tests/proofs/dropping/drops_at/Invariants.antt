use Rattle.std.proofs.Common.{◌↔◌}
use Rattle.number_turns.specs.Recalled.{recalled}
use Rattle.transition_tests.specs.Drops.{IsDropped}
use Rattle.transition_tests.proofs.DropLists.{DropFrom}
use Rattle.transition_tests.proofs.dropping.drops_at.Given as goal

abbrev pub invariant-loop-i : goal.invariant-loop-i
invariant-loop-i l = IsDropped (recalled l.transition) l.heads l.calls l.drops l.floor ↔ DropFrom (recalled l.transition) l.heads l.calls l.drops l.floor l.i
