use Rattle.std.proofs.Common.{◌≡◌, List, Option, slice_get, Some, subst}
use Rattle.linear_rows.specs.declared.row.Row.{Row}
use Rattle.termination_model.proofs.Lists.{at_place}
use Rattle.number_turns.proofs.NumberTests.{never, not_natural}
use Rattle.number_turns.proofs.atom_columns.AtomColumns.is_natural.Goals as goal

pub returns-then-not-is_natural : goal.returns-then-not-is_natural
returns-then-not-is_natural c =
    let columns = c.args.self.now.columns in
    let i = c.loop-column.column-index in
    let at : slice_get c.as_slice-column-items.result.now i ≡ Some c.column-item.result = at_place c.as_slice-column-items.result.now i c.column-item.result c.loop-column-test.true c.column-item.is in
    let here : slice_get columns i ≡ Some c.column-item.result = subst (λ (cs : List (Option Row)). slice_get cs i ≡ Some c.column-item.result) c.as_slice-column-items.ensures at in
    (λ t. absurd (never t), λ h. absurd (not_natural columns i c.column-item.result here (λ n. never (c.if-not-is_natural.ensures.1 n)) h))
