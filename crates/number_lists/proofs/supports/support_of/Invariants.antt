use Rattle.std.proofs.Common.{◌≡◌, ◌++◌, ◌+◌, drop}
use Rattle.number_lists.specs.Large.{held_support_from}
use Rattle.number_lists.proofs.supports.support_of.Given as goal

-- those so far, and those of the rest
abbrev pub invariant-loop-i : goal.invariant-loop-i
invariant-loop-i l = l.support.items ++ held_support_from (l.i + 1) (drop l.i l.positions) l.list.mappings ≡ held_support_from 1 l.positions l.list.mappings
