use Rattle.std.proofs.Common.{rules, ◌≡◌, true, arith}
use Rattle.exact128.specs.Fits.{fits}
use Rattle.redundant_rows.proofs.Origins.{fit_row}
use Rattle.redundant_rows.proofs.at_once.row_fits.Goals as goal

pub returns : goal.returns
returns c = λ _.
    let row = c.args.row.now in
    let first : fits row.constant ≡ true = search rules in
    fit_row row.constant row.coeffs first (λ k l. c.loop-k.invariant k (omega (arith, l, c.loop-k-test.false, c.len-k-end.ensures)))
