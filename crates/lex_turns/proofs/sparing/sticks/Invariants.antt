use Rattle.std.proofs.Common.{◌≡◌, length}
use Rattle.lex_turns.specs.Coursing.{KeepReached}
use Rattle.lex_turns.specs.Tracking.{staying}
use Rattle.lex_turns.proofs.sparing.sticks.Given as goal

abbrev pub invariant-loop-gone : goal.invariant-loop-gone
invariant-loop-gone l = record {
  long : length l.gone.items ≡ length l.component.calls.items;
  reached : KeepReached l.component.calls.items l.gone.items;
}

abbrev pub decreases-loop-gone : goal.decreases-loop-gone
decreases-loop-gone l = staying l.gone.items
