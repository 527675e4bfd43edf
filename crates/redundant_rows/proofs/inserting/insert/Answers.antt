use Rattle.std.proofs.Common.{◌+◌}
use Rattle.redundant_rows.specs.declared.inserting.Insertion.{Insertion}
use Rattle.redundant_rows.specs.Inserting.{AreKnown}
use Rattle.redundant_rows.proofs.RowLists.{ok_then}
use Rattle.redundant_rows.proofs.inserting.insert.Goals as goal

pub returns-clause-known : goal.returns-clause-known
returns-clause-known c =
    ok_then (λ (i : Insertion). AreKnown c.loop-left.insertion.marks.items c.args.place → AreKnown i.marks.items (c.args.place + 1))
    (λ (i : Insertion). AreKnown c.args.insertion.marks.items c.args.place → AreKnown i.marks.items (c.args.place + 1))
    (λ i h known. h (c.loop-left.invariant.known known)) c.insert_waiting.result c.insert_waiting.ensures.known
