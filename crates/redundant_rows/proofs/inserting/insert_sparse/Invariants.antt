use Rattle.redundant_rows.specs.Inserting.{IsInsertion}
use Rattle.redundant_rows.proofs.inserting.insert_sparse.Given as goal

abbrev pub invariant-loop-bits : goal.invariant-loop-bits
invariant-loop-bits l = IsInsertion l.rows.width l.rows.list l.insertion.marks.items l.insertion.kept
