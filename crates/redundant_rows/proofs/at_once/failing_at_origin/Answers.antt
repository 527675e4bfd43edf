use Rattle.std.proofs.Common.{rules, ℤ, List, pos, refl, ap, ◌∙◌, ◌++◌}
use Rattle.std.specs.Prelude.{◌≤ℤ◌}
use Rattle.linear_rows.specs.Solving.{zeros}
use Rattle.redundant_rows.proofs.Origins.{fails_at_origin}
use Rattle.redundant_rows.proofs.at_once.failing_at_origin.Goals as goal

pub returns : goal.returns
returns c =
    let n = c.args.rows.now.width in
    let row = c.args.row.now in
    let below : pos 0 ≤ℤ row.constant → ⊥ = search rules in
    fails_at_origin n c.args.rows.now.list row (record { t = pos 1; w = c.push_zeros.new.numbers }) (c.if-not-hold_at_origin.ensures refl) below refl
    (c.in_ok-push_zeros.ensures ∙ ap (λ (s : List ℤ). s ++ zeros n) c.new-w.ensures)
