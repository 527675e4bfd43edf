use Rattle.redundant_rows.specs.Inserting.{IsInsertion, AreKnown}
use Rattle.redundant_rows.proofs.inserting.insert.Given as goal

abbrev pub invariant-loop-left : goal.invariant-loop-left
invariant-loop-left l = record {
  insertion : IsInsertion l.rows.width l.rows.list l.insertion.marks.items l.insertion.kept;
  known : AreKnown l.fn.insertion.marks.items l.place → AreKnown l.insertion.marks.items l.place;
}

abbrev pub decreases-loop-left : goal.decreases-loop-left
decreases-loop-left l = l.left
