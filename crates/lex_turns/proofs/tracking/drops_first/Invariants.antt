use Rattle.std.proofs.Common.{◌≡◌, map, take}
use Rattle.lex_turns.specs.Tracking.{drops_first}
use Rattle.lex_turns.proofs.tracking.drops_first.Given as goal

abbrev pub invariant-loop-own : goal.invariant-loop-own
invariant-loop-own l = l.drops.items ≡ map drops_first (take l.own-index l.calls)
