use Rattle.std.proofs.Common.{map, take}
use Rattle.std.specs.List.{AllByRecursion}
use Rattle.number_turns.specs.Recalled.{IsNatural, column_of}
use Rattle.number_turns.proofs.atom_columns.AtomColumns.is_natural.Given as goal

abbrev pub invariant-loop-column : goal.invariant-loop-column
invariant-loop-column l = AllByRecursion IsNatural (map column_of (take l.column-index l.self.columns))
