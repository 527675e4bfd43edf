use Rattle.std.proofs.Common.{◌≡◌, ◌≤◌, ◌+◌, drop}
use Rattle.cti_top.specs.Places.{line_from, column_from}
use Rattle.cti_top.proofs.places.position_after.Given as goal

-- the bytes that are left lead on from the place so far
abbrev pub invariant-loop-byte : goal.invariant-loop-byte
invariant-loop-byte l = record {
  line : line_from l.position.line (drop l.byte-index l.before) ≡ line_from 1 l.before;
  column : column_from l.position.column (drop l.byte-index l.before) ≡ column_from 1 l.before;
  lines : l.position.line ≤ l.byte-index + 1;
  columns : l.position.column ≤ l.byte-index + 1;
}
