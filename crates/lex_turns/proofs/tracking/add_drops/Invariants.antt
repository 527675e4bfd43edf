use Rattle.std.proofs.Common.{◌≡◌, ◌≤◌, ◌++◌, drop, length, take}
use Rattle.level_systems.specs.Turned.{all_rows}
use Rattle.lex_turns.specs.Tracking.{after_drops, kept}
use Rattle.lex_turns.proofs.tracking.add_drops.Given as goal

abbrev pub invariant-loop-i : goal.invariant-loop-i
invariant-loop-i l = record {
  long : length l.drops.items ≡ length l.calls;
  room : all_rows (kept (drop l.i l.calls) (drop l.i l.gone)) ≤ length l.values;
  made : take l.i l.drops.items ++ after_drops (drop l.i l.calls) (drop l.i l.gone) l.values (drop l.i l.drops.items) ≡ after_drops l.calls l.gone l.fn.values l.fn.drops.items;
}
