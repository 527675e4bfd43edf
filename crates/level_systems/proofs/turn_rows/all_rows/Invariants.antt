use Rattle.std.proofs.Common.{◌≡◌, ◌+◌, drop}
use Rattle.level_systems.specs.Turned.{all_rows, held_of}
use Rattle.level_systems.proofs.turn_rows.all_rows.Given as goal

abbrev pub invariant-loop-own : goal.invariant-loop-own
invariant-loop-own l = l.count + all_rows (held_of (drop l.own-index l.calls)) ≡ all_rows (held_of l.calls)
