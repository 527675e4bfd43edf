use Rattle.std.proofs.Common.{◌∙◌, ◌++◌, ◌∷◌, [], Some, ap}
use Rattle.linear_rows.specs.declared.row.Row.{Row}
use Rattle.number_columns.proofs.OverLaws.{zeros_are}
use Rattle.number_columns.specs.ColumnLists.{plain_columns}
use Rattle.std.proofs.Common.{pos}
use Rattle.transition_tests.proofs.JoinedRows.{plain_joined}
use Rattle.transition_tests.proofs.dropping.joined_columns.Goals as goal

pub returns : goal.returns
returns c =
    let τ = c.args.transition.now in
    let one : Row = record { constant = pos 1; coeffs = c.in_ok-coeffs.coeffs } in
    let first = c.in_ok-add_copies.ensures ∙ (λ i. c.new-list.ensures i ++ c.as_slice.ensures i) in
    let second = c.in_ok-push.ensures.ok ∙ (λ i. first i ++ Some one ∷ []) in
    let third = c.in_ok-add_copies-2.ensures ∙ (λ i. second i ++ c.as_slice-2.ensures i) in
    ap plain_columns third
    ∙ plain_joined τ.head.columns (Some one) τ.call.columns
    ∙ ap (λ zs. plain_columns τ.head.columns ++ (Some (pos 1 ∷ zs) ∷ plain_columns τ.call.columns)) (c.in_ok-coeffs.ensures ∙ zeros_are τ.rows.width)
