use Rattle.std.proofs.Common.{suc, ap, inl, subst}
use Rattle.linear_rows.specs.Plain.{plain_row, plain_rows}
use Rattle.simplex.specs.Telling.{Tells}
use Rattle.simplex.specs.declared.held.Held.{Held}
use Rattle.simplex.proofs.Holding.{yes_holds, no_fails}
use Rattle.redundant_rows.proofs.at_once.is_held.Goals as goal

pub returns-in-Yes : goal.returns-in-Yes
returns-in-Yes c =
    let n = c.args.rows.now.width in
    let rows = plain_rows c.args.rows.now.list in
    let row = plain_row c.args.row.now in
    let told = subst (λ (h : Held). Tells n rows row h) c.in-Yes.is c.in_ok-holds.ensures in
    yes_holds n rows row c.in-Yes.field-0 (ap suc c.requires.row) told

pub returns-in-No : goal.returns-in-No
returns-in-No c =
    let n = c.args.rows.now.width in
    let rows = plain_rows c.args.rows.now.list in
    let row = plain_row c.args.row.now in
    let told = subst (λ (h : Held). Tells n rows row h) c.in-No.is c.in_ok-holds.ensures in
    inl (no_fails n rows row c.in-No.field-0 told)
