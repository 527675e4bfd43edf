use Rattle.std.proofs.Common.{◌≡◌, ◌+◌, ◌≤◌, drop, map}
use Rattle.size_chains.specs.Making.{plain_or_none}
use Rattle.size_chains.specs.Systems.{missing}
use Rattle.size_chains.proofs.tying.missing.Given as goal

abbrev pub invariant-loop-column : goal.invariant-loop-column
invariant-loop-column l = record {
  count : l.count + missing (map plain_or_none (drop l.column-index l.columns)) ≡ missing (map plain_or_none l.columns);
  most : l.count ≤ l.column-index;
}
