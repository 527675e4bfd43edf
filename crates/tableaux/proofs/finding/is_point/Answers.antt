use Rattle.std.proofs.Common.{rules, ◌≡◌, ◌≤◌, true, pos, length, arith}
use Rattle.std.specs.Int.{w128}
use Rattle.std.specs.Prelude.{FitsSigned, ◌≤ℤ◌}
use Rattle.std.proofs.lemmas.Int.{to_z-of_z, ints}
use Rattle.tableaux.proofs.Points.{point_is}
use Rattle.tableaux.proofs.finding.is_point.Goals as goal

pub returns : goal.returns
returns c =
    let f : FitsSigned w128 c.args.t = search rules in
    let yes : c.are_natural.result ≡ true = search rules in
    let some : pos 1 ≤ℤ c.args.t = omega (arith, ints) in
    let long : length c.args.w.now ≡ c.args.rows.now.width = omega arith in
    let past : length c.args.rows.now.list ≤ c.loop-i.i = omega arith in
    let hold = simp to_z-of_z at c.loop-i.invariant in
    λ e. point_is c.args.rows.now.width c.args.rows.now.list c.args.t c.args.w.now some long (c.are_natural.ensures.0 yes) (λ k d l. hold k d (omega (arith, l, past)))
