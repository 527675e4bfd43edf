use Rattle.std.proofs.Common.{◌*◌, ◌+◌, ◌<◌, arith}
use Rattle.command_words.proofs.StepLemmas.{too_many}
use Rattle.command_words.proofs.steps.number_in.Goals as goal

pub returns-then-value-greatest-clause-number : goal.returns-then-value-greatest-clause-number
returns-then-value-greatest-clause-number c =
    let large : c.args.greatest < c.loop-byte.value * 10 + c.in-Some.digit = omega (arith, c.if-value-greatest.true, c.from-in-loop-byte.ensures) in
    too_many c.args.digits c.args.greatest c.args.text.now c.loop-byte.byte-index c.loop-byte.value _ c.in-Some.digit c.loop-byte-test.true c.from.ensures c.in-Some.ensures.value c.loop-byte.invariant.value large
