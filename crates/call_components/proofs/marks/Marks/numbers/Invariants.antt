use Rattle.std.proofs.Common.{◌≡◌, map, take}
use Rattle.call_components.specs.declared.marks.Mark.TheVariants.{Closed}
use Rattle.call_components.proofs.marks.Marks.numbers.Given as goal

abbrev pub invariant-loop-mark : goal.invariant-loop-mark
invariant-loop-mark l = take l.mark-index l.mark-items ≡ map Closed l.numbers.items
