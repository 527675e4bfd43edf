use Rattle.std.proofs.Common.{◌≡◌, slice_get, Some, ap, arith}
use Rattle.number_tests.proofs.BeforeLaws.{before_first, before_more}
use Rattle.termination_model.proofs.Lists.{at_place}
use Rattle.cert_checker.specs.Sections.{count_in}
use Rattle.cert_checker.proofs.lines.after_all.Goals as goal

pub loop-list-init : goal.loop-list-init
loop-list-init g c = omega (arith, c.ranges.first.fits, before_first count_in c.args.lists.now)

pub loop-list-preserved : goal.loop-list-preserved
loop-list-preserved g c =
    let n = c.loop-list.list-index in
    let xs = c.list-item.result in
    let at : slice_get c.args.lists.now n ≡ Some xs = at_place c.args.lists.now n xs c.loop-list-test.true c.list-item.is in
    omega (arith, c.loop-list.invariant, c.after_lists-line.ensures, ap count_in c.as_slice.ensures, before_more count_in c.args.lists.now n xs at)
