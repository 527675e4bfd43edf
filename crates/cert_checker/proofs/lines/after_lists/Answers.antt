use Rattle.std.proofs.Common.{◌≡◌, length, slice_get, Some, arith}
use Rattle.number_tests.proofs.BeforeLaws.{before_first, before_more}
use Rattle.termination_model.proofs.Lists.{at_place}
use Rattle.cert_checker.proofs.lines.after_lists.Goals as goal

pub loop-list-init : goal.loop-list-init
loop-list-init g c = omega (arith, c.ranges.first.fits, before_first (λ xs. length xs) c.args.lists.now)

pub loop-list-preserved : goal.loop-list-preserved
loop-list-preserved g c =
    let n = c.loop-list.list-index in
    let xs = c.list-item.result in
    let at : slice_get c.args.lists.now n ≡ Some xs = at_place c.args.lists.now n xs c.loop-list-test.true c.list-item.is in
    omega (arith, c.loop-list.invariant, c.after-line.ensures, before_more (λ ys. length ys) c.args.lists.now n xs at)
