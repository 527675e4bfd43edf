use Rattle.std.proofs.Common.{◌≡◌, length}
use Rattle.precond_fixpoint.specs.Tables.{AreTables}
use Rattle.precond_fixpoint.proofs.modes.add_tables.Given as goal

-- there are so many tables, each as it should be
abbrev pub invariant-loop-count : goal.invariant-loop-count
invariant-loop-count l =
    record {
      many : length l.tables.items ≡ l.count;
      are : AreTables l.tables.items;
    }
