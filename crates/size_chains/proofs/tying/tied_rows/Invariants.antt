use Rattle.std.proofs.Common.{◌≡◌, ◌+◌, ◌++◌, drop, map}
use Rattle.std.specs.List.{AllByRecursion}
use Rattle.linear_rows.specs.Plain.{plain_rows, HaveWidth}
use Rattle.size_chains.specs.Making.{plain_or_none}
use Rattle.size_chains.specs.Systems.{IsHeadColumn, missing, tied}
use Rattle.size_chains.proofs.tying.tied_rows.Given as goal

abbrev pub invariant-loop-column : goal.invariant-loop-column
invariant-loop-column l = record {
  width : l.rows.width ≡ l.naturals + l.more;
  widths : HaveWidth (l.naturals + l.more) l.rows.list;
  place : l.place + missing (map plain_or_none (drop l.column-index l.columns)) ≡ l.more;
  columns : AllByRecursion (IsHeadColumn l.naturals) (map plain_or_none (drop l.column-index l.columns));
  rows : plain_rows l.rows.list ++ tied l.naturals l.more l.place (map plain_or_none (drop l.column-index l.columns)) ≡ tied l.naturals l.more 0 (map plain_or_none l.columns);
}
