use Rattle.redundant_rows.specs.Inserting.{IsInsertion}
use Rattle.redundant_rows.proofs.inserting.inserted.Given as goal

abbrev pub invariant-loop-coefficients : goal.invariant-loop-coefficients
invariant-loop-coefficients l = IsInsertion l.rows.width l.rows.list l.insertion.marks.items l.insertion.kept
