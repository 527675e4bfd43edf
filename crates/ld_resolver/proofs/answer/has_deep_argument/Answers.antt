use Rattle.std.proofs.Common.{◌∙◌, arith}
use Rattle.cti_terms.specs.declared.limits.TheConstants.{MOST_ANSWER_DEPTH}
use Rattle.ld_resolver.proofs.AnswerLaws.{argument_deep, argument_not_deep}
use Rattle.ld_resolver.proofs.answer.has_deep_argument.Goals as goal

pub returns-then-is_deep : goal.returns-then-is_deep
returns-then-is_deep c =
    argument_deep MOST_ANSWER_DEPTH 1 c.args.bindings.now 0 c.args.args.now c.loop-term.term-index c.term-item.result c.loop-term-test.true c.term-item.is c.is_deep.result c.is_deep.ensures c.if-is_deep.true
    ∙ c.loop-term.invariant

pub loop-term-preserved : goal.loop-term-preserved
loop-term-preserved c =
    argument_not_deep MOST_ANSWER_DEPTH 1 c.args.bindings.now 0 c.args.args.now c.loop-term.term-index c.term-item.result c.loop-term-test.true c.term-item.is c.is_deep.result c.is_deep.ensures c.if-is_deep.false (omega arith)
    ∙ c.loop-term.invariant
