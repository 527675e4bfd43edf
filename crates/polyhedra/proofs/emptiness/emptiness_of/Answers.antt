use Rattle.std.proofs.Common.{suc, ap, subst}
use Rattle.linear_rows.specs.Plain.{plain_row, plain_rows}
use Rattle.linear_rows.specs.Rows.{HoldsOn}
use Rattle.simplex.specs.Telling.{Tells}
use Rattle.simplex.specs.declared.held.Held.{Held}
use Rattle.polyhedra.proofs.Cores.{bottom_empty}
use Rattle.simplex.proofs.Holding.{yes_holds}
use Rattle.polyhedra.proofs.emptiness.emptiness_of.Goals as goal

pub returns-in-Yes : goal.returns-in-Yes
returns-in-Yes c =
    let n = c.args.rows.now.width in
    let rows = plain_rows c.args.rows.now.list in
    let row = plain_row c.in_ok-nowhere.nowhere in
    let told = subst (λ (h : Held). Tells n rows row h) c.in-Yes.is c.in_ok-tested_at.ensures in
    bottom_empty n rows (subst (HoldsOn (suc n) rows) c.in_ok-nowhere.ensures.row (yes_holds n rows row c.in-Yes.field-0 (ap suc c.in_ok-nowhere.ensures.width) told))
