use Rattle.std.proofs.Common.{◌≡◌, ◌++◌, ◌+◌, drop}
use Rattle.carried_mappings.specs.Reordered.{renumbered, renumbered_from}
use Rattle.carried_mappings.proofs.sets.renumbered.Given as goal

-- those so far, and those of the rest
abbrev pub invariant-loop-i : goal.invariant-loop-i
invariant-loop-i l = l.now.items ++ renumbered_from (l.i + 1) (drop l.i l.numbers) l.set ≡ renumbered l.numbers l.set
