use Rattle.std.proofs.Common.{◌≡◌, length, take}
use Rattle.lex_turns.specs.Coursing.{KeepReached}
use Rattle.lex_turns.proofs.needing.all_but.Given as goal

abbrev pub invariant-loop-i : goal.invariant-loop-i
invariant-loop-i l = record {
  long : length l.gone.items ≡ length (take l.i l.calls);
  reached : KeepReached (take l.i l.calls) l.gone.items;
}
