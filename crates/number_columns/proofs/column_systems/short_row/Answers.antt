use Rattle.std.proofs.Common.{◌≡◌, ◌∙◌, ◌∷◌, suc, pos, ℤ, List, Option, None, Some, not, length, replicate, sym, subst, ap, arith}
use Rattle.linear_rows.specs.Plain.{plain_row}
use Rattle.linear_rows.specs.Replacing.{row_fits}
use Rattle.termination_model.specs.columns.ColumnRows.{or_zeros, row_over}
use Rattle.termination_model.specs.sizes.ShortSystems.{short_row}
use Rattle.number_columns.specs.ColumnLists.{HasLength, IsRowOver, plain_columns}
use Rattle.number_columns.specs.declared.rows_over.RowOver.TheVariants.{There, Missing, Wide}
use Rattle.number_columns.proofs.OverLaws.{length_over, missing_is, short_fit, there_is, wide_is, zeros_fit}
use Rattle.number_columns.proofs.column_systems.short_row.Goals as goal

pub returns-in-There-clause-length : goal.returns-in-There-clause-length
returns-in-There-clause-length c =
    let n = c.args.width in
    let o = row_over n (plain_columns c.args.list.now) (plain_row c.args.row.now) in
    let is = there_is o c.in-There.row (subst (IsRowOver o) c.in-There.is c.in_ok-row.ensures) in
    let long : length (plain_row c.in-There.row) ≡ suc n = subst (HasLength n) is.0 (length_over n (plain_columns c.args.list.now) (plain_row c.args.row.now) c.requires.lengths) in
    omega (arith, long)

pub returns-in_ok-zero_row-in-Missing-clause-row : goal.returns-in_ok-zero_row-in-Missing-clause-row
returns-in_ok-zero_row-in-Missing-clause-row c =
    let n = c.args.width in
    let o = row_over n (plain_columns c.args.list.now) (plain_row c.args.row.now) in
    let none = missing_is o (subst (IsRowOver o) c.in-Missing.is c.in_ok-row.ensures) in
    c.in_ok-zero_row-in-Missing.ensures ∙ sym (short_fit (or_zeros n None) (zeros_fit (suc n))) ∙ ap (λ (x : Option (List ℤ)). short_row (or_zeros n x)) (sym none)

pub returns-in_ok-zero_row-in-Missing-clause-wide : goal.returns-in_ok-zero_row-in-Missing-clause-wide
returns-in_ok-zero_row-in-Missing-clause-wide c =
    let n = c.args.width in
    let o = row_over n (plain_columns c.args.list.now) (plain_row c.args.row.now) in
    let none = missing_is o (subst (IsRowOver o) c.in-Missing.is c.in_ok-row.ensures) in
    ap not (sym (zeros_fit (suc n))) ∙ ap (λ (x : Option (List ℤ)). not (row_fits (or_zeros n x))) (sym none)

pub returns-in_ok-zero_row-in-Wide-clause-row : goal.returns-in_ok-zero_row-in-Wide-clause-row
returns-in_ok-zero_row-in-Wide-clause-row c =
    let n = c.args.width in
    let es = plain_columns c.args.list.now in
    let o = row_over n es (plain_row c.args.row.now) in
    c.in_ok-zero_row-in-Wide.ensures ∙ sym (wide_is n o (length_over n es (plain_row c.args.row.now) c.requires.lengths) (subst (IsRowOver o) c.in-Wide.is c.in_ok-row.ensures))
