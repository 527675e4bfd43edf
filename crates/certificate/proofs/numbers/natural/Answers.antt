use Rattle.std.proofs.Common.{◌+◌, ◌*◌, ◌<◌, ◌≤◌, get_or, arith}
use Rattle.std.specs.Char.{digit_value}
use Rattle.certificate.proofs.NumberLemmas.{more, past, other, too_large, no_digit, whole}
use Rattle.certificate.proofs.numbers.natural.Goals.{else-loop-byte-test, then-loop-byte-test+in_default}
use Rattle.certificate.proofs.numbers.natural.Goals as goal

pub returns-then-value-most-clause-value : goal.returns-then-value-most-clause-value
returns-then-value-most-clause-value c =
    let i = c.loop-byte.invariant in
    let h = more _ _ _ _ _ _ i.0 c.loop-byte-test.true i.1 i.2 c.from.ensures c.in-Some.ensures.value in
    let large : c.args.most < c.loop-byte.value * 10 + c.in-Some.digit = omega (arith, c.if-value-most.true) in
    too_large c.args.most c.args.text.now _ h.0 (rw (← h.1) large)

pub returns-then-value-most-2-clause-value : goal.returns-then-value-most-2-clause-value
returns-then-value-most-2-clause-value c =
    let i = c.loop-byte.invariant in
    let h = more _ _ _ _ _ _ i.0 c.loop-byte-test.true i.1 i.2 c.from.ensures c.in-Some.ensures.value in
    let large : c.args.most < c.loop-byte.value * 10 + c.in-Some.digit = omega (arith, c.from-in-loop-byte.ensures, c.if-value-most-2.true) in
    too_large c.args.most c.args.text.now _ h.0 (rw (← h.1) large)

pub loop-byte-preserved : goal.loop-byte-preserved
loop-byte-preserved c =
    let i = c.loop-byte.invariant in
    let h = more _ _ _ _ _ _ i.0 c.loop-byte-test.true i.1 i.2 c.from.ensures c.in-Some.ensures.value in
    (omega arith, h.0, rw c.from-in-loop-byte.ensures h.1, omega (arith, c.if-value-most-2.false))

pub returns-then-len-eq0-clause-value : goal.returns-then-len-eq0-clause-value
returns-then-len-eq0-clause-value c =
    let stop : 10 ≤ digit_value (get_or c.args.text.now c.loop-byte.len 0) = elim c.loop-byte-test.branch [
      | else-loop-byte-test w ↦ past _ _ _ c.loop-byte.invariant.0 w.loop-byte-test.false
      | then-loop-byte-test+in_default w ↦ other _ _ _ _ c.loop-byte.invariant.0 w.from.ensures w.in_default.ensures.value
    ] in
    no_digit c.args.most c.args.text.now (rw c.if-len-eq0.true at stop)

pub returns-clause-value : goal.returns-clause-value
returns-clause-value c =
    let i = c.loop-byte.invariant in
    let stop : 10 ≤ digit_value (get_or c.args.text.now c.loop-byte.len 0) = elim c.loop-byte-test.branch [
      | else-loop-byte-test w ↦ past _ _ _ i.0 w.loop-byte-test.false
      | then-loop-byte-test+in_default w ↦ other _ _ _ _ i.0 w.from.ensures w.in_default.ensures.value
    ] in
    whole c.args.most c.args.text.now _ _ (omega arith) (omega arith) i.1 i.2 i.3 stop
