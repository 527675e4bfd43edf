use Rattle.std.proofs.Common.{take}
use Rattle.level_dual.specs.Vanishing.{AreUnlisted}
use Rattle.level_dual.proofs.vanishing.unlisted.Given as goal

abbrev pub invariant-loop-number : goal.invariant-loop-number
invariant-loop-number l = AreUnlisted l.marks.items (take l.number-index l.set)
