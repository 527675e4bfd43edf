use Rattle.std.proofs.Common.{◌≤◌, ◌-◌, length, take}
use Rattle.outside.specs.Told.{Takes}
use Rattle.outside.proofs.writing.write_text.Given as goal

abbrev pub invariant-loop-done : goal.invariant-loop-done
invariant-loop-done g l =
    (l.done ≤ length l.text) × Takes (g.S.Sink.taken l.initial.out) (take l.done l.text) (g.S.Sink.taken l.out) × (g.S.Sink.faults l.initial.out ≤ g.S.Sink.faults l.out)

abbrev pub decreases-loop-done : goal.decreases-loop-done
decreases-loop-done g l = length l.text - l.done
