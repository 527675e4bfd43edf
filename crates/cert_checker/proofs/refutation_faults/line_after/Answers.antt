use Rattle.std.proofs.Common.{◌≡◌, ◌+◌, slice_get, Some, arith}
use Rattle.number_tests.specs.Failing.{points_of}
use Rattle.number_tests.proofs.BeforeLaws.{before_first, before_more}
use Rattle.termination_model.proofs.Lists.{at_place}
use Rattle.cert_checker.proofs.refutation_faults.line_after.Goals as goal

pub loop-x-init : goal.loop-x-init
loop-x-init c = λ m. omega (arith, before_first points_of c.args.points.now)

pub loop-x-preserved : goal.loop-x-preserved
loop-x-preserved c = λ m.
    let n = c.loop-x.x-index in
    let at : slice_get c.args.points.now n ≡ Some c.x-item.result = at_place c.args.points.now n c.x-item.result c.loop-x-test.true c.x-item.is in
    omega (arith, c.loop-x.invariant (points_of c.x-item.result + m), c.points_of.ensures, c.saturating_add-line.ensures, before_more points_of c.args.points.now n c.x-item.result at)
