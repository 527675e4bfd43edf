use Rattle.std.proofs.Common.{◌≡◌, replicate}
use Rattle.call_components.specs.declared.marks.Mark.TheVariants.{Unseen}
use Rattle.call_components.proofs.marks.Marks.new.Given as goal

abbrev pub invariant-loop-i : goal.invariant-loop-i
invariant-loop-i l = l.items.items ≡ replicate l._i Unseen
