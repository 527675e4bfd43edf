use Rattle.std.proofs.Common.{◌≡◌, List, ℤ, None, sym, subst, ap, ◌∙◌, arith}
use Rattle.std.proofs.lemmas.List.{length-map}
use Rattle.exact128.specs.Sums.{dot}
use Rattle.linear_rows.specs.Plain.{plain_row}
use Rattle.linear_rows.specs.Solving.{zeros}
use Rattle.termination_model.specs.sizes.Replacing.{IsRowIfFits, over_columns}
use Rattle.termination_model.proofs.SystemLaws.{zeros_of}
use Rattle.termination_model.proofs.systems.short_row.Goals as goal

pub returns-clause-row : goal.returns-clause-row
returns-clause-row c =
    let numbers : c.as_slice.result.now ≡ plain_row c.args.row.now = c.as_slice.ensures ∙ c.in_ok-numbers.ensures in
    let z : List ℤ = over_columns c.args.columns.now (plain_row c.args.row.now) in
    let unfit : IsRowIfFits z None = subst (λ (xs : List ℤ). IsRowIfFits (over_columns c.args.columns.now xs) None) numbers (subst (IsRowIfFits (over_columns c.args.columns.now c.as_slice.result.now)) c.in-None.is c.in_ok-row.ensures) in
    c.in_ok-zero_row-in-None.ensures ∙ ap zeros (omega (arith, c.requires.some, length-map c.args.columns.now (λ x. dot (plain_row c.args.row.now) x))) ∙ sym (zeros_of z unfit)
