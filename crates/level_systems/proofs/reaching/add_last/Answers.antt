use Rattle.std.proofs.Common.{◌≡◌, ◌∷◌, ◌++◌, [], pos, ap, ◌∙◌, length, arith}
use Rattle.simplex.proofs.RowLists.{length_push, length-zeros}
use Rattle.level_systems.proofs.reaching.add_last.Goals as goal

pub push-requires-2 : goal.push-requires-2
push-requires-2 c =
    let zeros_are : length c.in_ok-coeffs.coeffs ≡ c.args.width = ap length c.in_ok-coeffs.ensures ∙ length-zeros c.args.width in
    let pushed : length c.push.new.self ≡ length (c.in_ok-coeffs.coeffs ++ pos 1 ∷ []) = ap length c.in_ok-push.ensures.ok in
    let width = c.requires.width in
    omega (arith, pushed, length_push c.in_ok-coeffs.coeffs (pos 1), zeros_are, width)
