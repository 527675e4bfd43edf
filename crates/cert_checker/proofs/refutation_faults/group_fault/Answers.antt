use Rattle.std.proofs.Common.{map, arith}
use Rattle.call_components.specs.Numbers.{number_of}
use Rattle.cert_checker.proofs.RefutationLaws.{group_fails, group_holds, sums_fail}
use Rattle.cert_checker.specs.declared.fault.Fault.{Fault}
use Rattle.cert_checker.proofs.refutation_faults.group_fault.Goals as goal

pub returns-in-Some-clause-first : goal.returns-in-Some-clause-first
returns-in-Some-clause-first g c = λ pred.
    let e = g.N.Norm.expression c.args.norm.now in
    let p = c.args.p.now in
    let members = map number_of c.args.members.now in
    let points = c.args.points.now in
    let fails = rw c.in-Some.is at c.in_ok-flaw.ensures.fails in
    let fault : Fault = record { line = c.args.line; reason = c.of-reason.result } in
    sums_fail e p c.args.sizes.now members points pred fault c.in-Some.flaw fails c.of-reason.ensures (omega (arith, c.ranges.line.fits))

pub returns-in_default-2-clause-first : goal.returns-in_default-2-clause-first
returns-in_default-2-clause-first g c = λ pred.
    group_holds (g.N.Norm.expression c.args.norm.now) c.args.p.now c.args.sizes.now (map number_of c.args.members.now) c.args.points.now pred c.requires.pairs
    (c.in_ok-flaw.ensures.refute.0 c.in_default.is) (c.in_ok-found.ensures.hold.0 c.in_default-2.is)

pub returns-clause-first : goal.returns-clause-first
returns-clause-first g c = λ pred.
    let e = g.N.Norm.expression c.args.norm.now in
    let p = c.args.p.now in
    let members = map number_of c.args.members.now in
    let points = c.args.points.now in
    let first = rw c.in-Some-2.is at c.in_ok-found.ensures.first in
    let fault : Fault = record { line = c.saturating_add-2.result; reason = c.of.result } in
    group_fails e p c.args.sizes.now members points pred c.requires.pairs (c.in_ok-flaw.ensures.refute.0 c.in_default.is) c.args.line fault c.in-Some-2.found first c.of.ensures
    (omega (arith, c.saturating_add.ensures, c.saturating_add-2.ensures))
