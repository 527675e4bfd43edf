use Rattle.std.proofs.Common.{◌≡◌, map, pos, take}
use Rattle.term_size.proofs.counting.Counts.first_variables.Given as goal

abbrev pub invariant-loop-count : goal.invariant-loop-count
invariant-loop-count l = l.items.items ≡ map pos (take l.count-index l.count-items)
