use Rattle.std.proofs.Common.{◌≢◌, List, Some, subst}
use Rattle.std.specs.Prelude.{slice_get}
use Rattle.redundant_rows.specs.declared.mark.Mark.{Mark}
use Rattle.redundant_rows.specs.declared.mark.Mark.TheVariants.{Waiting}
use Rattle.redundant_rows.proofs.InsertionLemmas.{known_here}
use Rattle.redundant_rows.proofs.inserting.insert_waiting.Goals as goal

pub returns-clause-known : goal.returns-clause-known
returns-clause-known c =
    let marks = c.args.insertion.marks.items in
    let other : slice_get marks c.args.place ≢ Some Waiting = subst (λ (ms : List Mark). slice_get ms c.args.place ≢ Some Waiting) c.as_slice.ensures.value (c.is_waiting.ensures.other c.if-is_waiting.false) in
    known_here marks c.args.place other
