use Rattle.std.proofs.Common.{◌≡◌, ◌+◌, ◌++◌, drop, length}
use Rattle.lex_turns.specs.Tracking.{after_falls, staying}
use Rattle.lex_turns.proofs.tracking.after_falls.Given as goal

abbrev pub invariant-loop-has_gone : goal.invariant-loop-has_gone
invariant-loop-has_gone l = record {
  count : l.next + staying (drop l.has_gone-index l.gone) ≡ length l.falls;
  made : l.left.items ++ after_falls (drop l.has_gone-index l.gone) (drop l.next l.falls) ≡ after_falls l.gone l.falls;
}
