use Rattle.std.proofs.Common.{rules, ◌≡◌, ◌∙◌, ◌∷◌, ℤ, List, Option, None, Some, false, sym, subst, ap}
use Rattle.linear_rows.specs.Plain.{plain_row}
use Rattle.linear_rows.specs.Replacing.{IsRowIfFits, over_columns, substituted}
use Rattle.termination_model.specs.columns.ColumnRows.{lacks, or_empty}
use Rattle.std.proofs.Common.{map}
use Rattle.number_columns.specs.ColumnLists.{IsRowOver, plain_columns}
use Rattle.number_columns.specs.declared.rows_over.RowOver.TheVariants.{There, Missing, Wide}
use Rattle.number_columns.proofs.OverLaws.{over_columns_is, over_lacking, over_there}
use Rattle.number_columns.proofs.rows_over.row_by_number.Goals as goal

pub returns-in-Some : goal.returns-in-Some
returns-in-Some c =
    let n = c.args.width in
    let es = plain_columns c.args.list.now in
    let b = c.args.row.now.constant in
    let coeffs = c.args.row.now.coeffs in
    let lacking : lacks coeffs es ≡ false = ap (λ (s : List ℤ). lacks s es) (sym c.as_slice.ensures) ∙ sym c.lacks.ensures ∙ c.if-lacks.false in
    let own : c.as_slice-2.result.now ≡ plain_row c.args.row.now = c.as_slice-2.ensures ∙ c.in_ok-own.ensures in
    let is : over_columns c.args.numbers.now c.as_slice-2.result.now ≡ substituted n (map or_empty es) (b ∷ coeffs) = ap (over_columns c.args.numbers.now) own ∙ over_columns_is n es c.args.numbers.now (b ∷ coeffs) c.requires.lengths c.requires.numbers in
    let fits : IsRowIfFits (substituted n (map or_empty es) (b ∷ coeffs)) (Some c.in-Some.row) = subst (λ (z : List ℤ). IsRowIfFits z (Some c.in-Some.row)) is (subst (IsRowIfFits (over_columns c.args.numbers.now c.as_slice-2.result.now)) c.in-Some.is c.in_ok-row.ensures) in
    subst (λ (o : Option (List ℤ)). IsRowOver o (There c.in-Some.row)) (sym (over_there n es b coeffs lacking)) fits

pub returns : goal.returns
returns c =
    let n = c.args.width in
    let es = plain_columns c.args.list.now in
    let b = c.args.row.now.constant in
    let coeffs = c.args.row.now.coeffs in
    let lacking : lacks coeffs es ≡ false = ap (λ (s : List ℤ). lacks s es) (sym c.as_slice.ensures) ∙ sym c.lacks.ensures ∙ c.if-lacks.false in
    let own : c.as_slice-2.result.now ≡ plain_row c.args.row.now = c.as_slice-2.ensures ∙ c.in_ok-own.ensures in
    let is : over_columns c.args.numbers.now c.as_slice-2.result.now ≡ substituted n (map or_empty es) (b ∷ coeffs) = ap (over_columns c.args.numbers.now) own ∙ over_columns_is n es c.args.numbers.now (b ∷ coeffs) c.requires.lengths c.requires.numbers in
    let fits : IsRowIfFits (substituted n (map or_empty es) (b ∷ coeffs)) None = subst (λ (z : List ℤ). IsRowIfFits z None) is (subst (IsRowIfFits (over_columns c.args.numbers.now c.as_slice-2.result.now)) c.in-None.is c.in_ok-row.ensures) in
    subst (λ (o : Option (List ℤ)). IsRowOver o Wide) (sym (over_there n es b coeffs lacking)) fits
