use Rattle.std.proofs.Common.{ℤ, List, length, ap, subst, refl}
use Rattle.linear_rows.specs.Plain.{plain_rows}
use Rattle.linear_rows.specs.Showing.{Shows, bottom_row}
use Rattle.simplex.specs.Telling.{Tells}
use Rattle.level_systems.proofs.Bottoms.{length_bottom, shown_at_zero}
use Rattle.level_systems.proofs.reaching.emptiness.Goals as goal

pub holds-requires-clause-row : goal.holds-requires-clause-row
holds-requires-clause-row c = length_bottom c.args.rows.now.width c.in_ok-row.row.coeffs (ap length c.in_ok-row.ensures)

pub returns-in-Yes : goal.returns-in-Yes
returns-in-Yes c =
    let told = subst (λ (r : List ℤ). Tells c.args.rows.now.width (plain_rows c.args.rows.now.list) r c.in_ok-by.field-0) c.in_ok-row.ensures c.in_ok-by.ensures in
    let yes : Shows (plain_rows c.args.rows.now.list) (bottom_row c.args.rows.now.width) c.in-Yes.by = subst (Tells c.args.rows.now.width (plain_rows c.args.rows.now.list) (bottom_row c.args.rows.now.width)) c.in-Yes.is told in
    (shown_at_zero c.args.rows.now.width (plain_rows c.args.rows.now.list) c.in-Yes.by c.in_ok-copy-in-Yes.field-0 c.in_ok-copy-in-Yes.ensures yes, refl)

pub returns-in-No : goal.returns-in-No
returns-in-No c =
    let told = subst (λ (r : List ℤ). Tells c.args.rows.now.width (plain_rows c.args.rows.now.list) r c.in_ok-by.field-0) c.in_ok-row.ensures c.in_ok-by.ensures in
    let no = subst (Tells c.args.rows.now.width (plain_rows c.args.rows.now.list) (bottom_row c.args.rows.now.width)) c.in-No.is told in
    record { t = no.t; w = no.w; some = no.some; long = no.long; hold = no.hold }
