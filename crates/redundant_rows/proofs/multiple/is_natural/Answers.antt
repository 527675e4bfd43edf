use Rattle.std.proofs.Common.{rules, pos, arith}
use Rattle.std.specs.Prelude.{◌≤ℤ◌}
use Rattle.redundant_rows.proofs.MultipleLemmas.{natural_row}
use Rattle.redundant_rows.proofs.multiple.is_natural.Goals as goal

pub returns : goal.returns
returns c = λ _.
    let row = c.args.row.now in
    let first : pos 0 ≤ℤ row.constant = search rules in
    natural_row row.constant row.coeffs first (λ k l. c.loop-k.invariant k (omega (arith, l, c.loop-k-test.false, c.len-k-end.ensures)))
