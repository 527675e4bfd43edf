use Rattle.std.proofs.Common.{arith}
use Rattle.unifier.proofs.FlatLaws.{flat_more, flat_none, flat_arguments}
use Rattle.unifier.proofs.occurs_check.above_flat.Goals as goal

pub loop-term-preserved : goal.loop-term-preserved
loop-term-preserved c = λ m le others.
    let args = c.args.arguments.args.now in
    c.loop-term.invariant m (omega (arith, le, c.in_ok-above.ensures.greater))
    (flat_more c.args.bindings.now c.args.variable m c.args.arguments.base c.loop-term.term-index args c.term-item.result c.in_ok-above.above c.loop-term-test.true c.term-item.is le c.in_ok-above.ensures.flat others)

pub returns : goal.returns
returns c =
    let s = c.args.bindings.now in
    let n = c.args.arguments.base in
    let args = c.args.arguments.args.now in
    let above = c.loop-term.above in
    let none = flat_none s c.args.variable above n c.loop-term.term-index args (omega (arith, c.loop-term-test.false)) in
    flat_arguments s c.args.variable above n args (c.loop-term.invariant above (omega arith) none)
