use Rattle.std.proofs.Common.{◌≡◌, ◌+◌, List, length, slice_get, Some, arith}
use Rattle.linear_rows.specs.declared.multipliers.Multipliers.{Multipliers}
use Rattle.number_tests.proofs.BeforeLaws.{before_first, before_more}
use Rattle.termination_model.proofs.Lists.{at_place}
use Rattle.cert_checker.proofs.fall_faults.line_after.Goals as goal

pub loop-own-init : goal.loop-own-init
loop-own-init c = λ m. omega (arith, before_first (λ (ms : List Multipliers). length ms) c.args.proofs.now)

pub loop-own-preserved : goal.loop-own-preserved
loop-own-preserved c = λ m.
    let n = c.loop-own.own-index in
    let at : slice_get c.args.proofs.now n ≡ Some c.own-item.result = at_place c.args.proofs.now n c.own-item.result c.loop-own-test.true c.own-item.is in
    omega (arith, c.loop-own.invariant (length c.own-item.result + m), c.saturating_add-line.ensures, before_more (λ (ms : List Multipliers). length ms) c.args.proofs.now n c.own-item.result at)
