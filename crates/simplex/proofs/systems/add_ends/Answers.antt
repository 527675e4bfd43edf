use Rattle.std.proofs.Common.{◌≡◌, ◌∷◌, ◌++◌, [], suc, pos, ap, ◌∙◌, length, arith}
use Rattle.simplex.proofs.RowLists.{length_push, length-zeros}
use Rattle.simplex.proofs.systems.add_ends.Goals as goal

pub push-requires : goal.push-requires
push-requires c =
    let long : suc (length c.in_ok-at_last.field-0.coeffs) ≡ suc (length (c.in_ok-zeros.field-0 ++ pos 1 ∷ [])) = ap length c.in_ok-at_last.ensures in
    let zeros_are : length c.in_ok-zeros.field-0 ≡ length c.args.row.now.coeffs = ap length c.in_ok-zeros.ensures ∙ length-zeros c.len.result ∙ c.len.ensures in
    omega (arith, long, length_push c.in_ok-zeros.field-0 (pos 1), zeros_are, c.requires.width)
