use Rattle.std.specs.Int.{w128}
use Rattle.std.proofs.Common.{rules, FitsSigned, to_z, of_z, ◌≡◌, ◌∙◌, ◌∷◌, ◌↔◌, ℤ, IsTrue, IfOk, List, Option, ap, sym, subst}
use Rattle.std.proofs.lemmas.Int.{to_z-of_z}
use Rattle.component_transitions.proofs.HeldTransitions.{columns_same}
use Rattle.linear_rows.specs.Plain.{plain_rows}
use Rattle.number_columns.specs.ColumnLists.{plain_columns}
use Rattle.number_turns.specs.Recalled.{column_of}
use Rattle.std.proofs.Common.{map}
use Rattle.termination_model.specs.columns.ColumnRows.{row_over}
use Rattle.transition_tests.specs.Targets.{IsTargetShown}
use Rattle.transition_tests.proofs.dropping.level_shown.Goals as goal

pub returns : goal.returns
returns c =
    let τ = c.args.transition.now in
    let n = τ.rows.width in
    let head = c.args.head.now in
    let columns : plain_columns c.as_slice-columns.result.now ≡ map column_of τ.head.columns = ap plain_columns c.as_slice-columns.ensures ∙ sym (columns_same τ.head.columns) in
    let fo : FitsSigned w128 head.offset = search rules in
    let first : to_z w128 (of_z w128 head.offset) ≡ head.offset = to_z-of_z w128 head.offset fo in
    let same : row_over n (plain_columns c.as_slice-columns.result.now) (to_z w128 (of_z w128 head.offset) ∷ c.in_ok-copy.field-0) ≡ row_over n (map column_of τ.head.columns) (head.offset ∷ head.coeffs) =
    λ i. row_over n (columns i) (first i ∷ c.in_ok-copy.ensures i) in
    subst (λ (o : Option (List ℤ)). IfOk c.row_shown.result (λ yes. IsTrue yes ↔ IsTargetShown (plain_rows τ.rows.list) n o c.args.by.now)) same c.row_shown.ensures
