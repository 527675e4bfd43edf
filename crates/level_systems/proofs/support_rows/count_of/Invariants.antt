use Rattle.std.proofs.Common.{◌≡◌, ◌+◌, drop}
use Rattle.level_systems.specs.Recalled.{count_of}
use Rattle.level_systems.proofs.support_rows.count_of.Given as goal

abbrev pub invariant-loop-own : goal.invariant-loop-own
invariant-loop-own l = l.count + count_of (drop l.own-index l.calls) ≡ count_of l.calls
