use Rattle.std.proofs.Common.{length, arith}
use Rattle.linear_rows.specs.declared.row.Rows.{Rows}
use Rattle.number_tests.proofs.BeforeLaws.{before_first, before_more}
use Rattle.cert_checker.proofs.lines.after_rows.Goals as goal

pub loop-q-init : goal.loop-q-init
loop-q-init c = omega (arith, c.ranges.first.fits, before_first (λ (r : Rows). length r.list) c.args.rows.now)

pub loop-q-preserved : goal.loop-q-preserved
loop-q-preserved c =
    let count = λ (r : Rows). length r.list in
    omega (arith, c.loop-q.invariant, c.len.ensures, c.after-line.ensures, before_more count c.args.rows.now c.loop-q.q c.get.result.now c.get.ensures)
