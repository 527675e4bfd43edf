use Rattle.std.proofs.Common.{ℤ, pos, List, length, ap, subst, ◌∙◌}
use Rattle.std.proofs.lemmas.List.{length-map}
use Rattle.linear_rows.specs.Plain.{plain_rows}
use Rattle.linear_rows.specs.Showing.{bottom_row}
use Rattle.simplex.specs.Telling.{Tells}
use Rattle.level_systems.proofs.Bottoms.{length_bottom}
use Rattle.level_systems.proofs.reaching.point_by_pivots.Goals as goal

pub holds-requires-clause-row : goal.holds-requires-clause-row
holds-requires-clause-row c = length_bottom c.args.rows.now.width c.in_ok-row.row.coeffs (ap length c.in_ok-row.ensures)

pub returns-in-No : goal.returns-in-No
returns-in-No c =
    let told = subst (λ (r : List ℤ). Tells c.args.rows.now.width (plain_rows c.args.rows.now.list) r c.in_ok-point.field-0) c.in_ok-row.ensures c.in_ok-point.ensures in
    let no = subst (Tells c.args.rows.now.width (plain_rows c.args.rows.now.list) (bottom_row c.args.rows.now.width)) c.in-No.is told in
    ap length c.in_ok-copy-in-No.ensures ∙ ap length no.w_is ∙ length-map no.w (λ n. pos n) ∙ no.long
