use Rattle.std.proofs.Common.{◌≡◌, ◌++◌, drop}
use Rattle.level_systems.specs.Turned.{held_of}
use Rattle.lex_turns.specs.Tracking.{kept}
use Rattle.lex_turns.proofs.tracking.kept.Given as goal

abbrev pub invariant-loop-i : goal.invariant-loop-i
invariant-loop-i l = held_of l.rest.items ++ kept (drop l.i l.calls) (drop l.i l.gone) ≡ kept l.calls l.gone
