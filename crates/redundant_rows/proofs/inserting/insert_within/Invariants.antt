use Rattle.std.proofs.Common.{◌≡◌}
use Rattle.redundant_rows.specs.Inserting.{IsInsertion, AreKnown}
use Rattle.redundant_rows.proofs.inserting.insert_within.Given as goal

abbrev pub invariant-loop-place : goal.invariant-loop-place
invariant-loop-place l = record {
  insertion : IsInsertion l.rows.width l.rows.list l.insertion.marks.items l.insertion.kept;
  known : l.reach.coefficients ≡ l.rows.width → l.reach.bits ≡ 128 → AreKnown l.insertion.marks.items l.place;
}
