use Rattle.std.proofs.Common.{◌≡◌, map, take}
use Rattle.lex_turns.specs.Tracking.{gone_first}
use Rattle.lex_turns.proofs.tracking.gone_first.Given as goal

abbrev pub invariant-loop-own : goal.invariant-loop-own
invariant-loop-own l = l.gone.items ≡ map gone_first (take l.own-index l.calls)
