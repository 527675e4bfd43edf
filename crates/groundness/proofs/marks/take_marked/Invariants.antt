use Rattle.std.proofs.Common.{◌≡◌, length}
use Rattle.groundness.specs.Marks.{AreWaiting}
use Rattle.groundness.proofs.marks.take_marked.Given as goal

abbrev pub invariant-loop-clause : goal.invariant-loop-clause
invariant-loop-clause l =
    record {
      same : l.marked.items ≡ l.fn.marked.items;
      waiting : AreWaiting l.marked.items l.waiting.items;
    }

abbrev pub decreases-loop-clause : goal.decreases-loop-clause
decreases-loop-clause l = length l.waiting.items
