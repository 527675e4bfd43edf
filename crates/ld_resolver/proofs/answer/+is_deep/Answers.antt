use Rattle.std.proofs.Common.{◌≡◌, ℕ, ◌+◌, nat_lt, drop, ap, sym, ◌∙◌, arith}
use Rattle.cti_terms.specs.Answers.{greatest_depth}
use Rattle.cti_terms.specs.declared.limits.TheConstants.{MOST_ANSWER_DEPTH}
use Rattle.unifier.specs.Raised.{raised_tree}
use Rattle.unifier.specs.Store.{full}
use Rattle.unifier.specs.Pending.{args_full}
use Rattle.ld_resolver.proofs.AnswerLaws.{deep_below, argument_deep, argument_not_deep}
use Rattle.ld_resolver.proofs.answer.+is_deep.Goals as goal

plus_one : (a n : ℕ) → (a + 1) + n ≡ a + (1 + n)
plus_one a n = omega arith

pub returns-then-above-eq-MOST_ANSWER_DEPTH : goal.returns-then-above-eq-MOST_ANSWER_DEPTH
returns-then-above-eq-MOST_ANSWER_DEPTH t c = deep_below MOST_ANSWER_DEPTH c.args.above (full c.args.bindings.now (raised_tree c.args.term)) c.if-above-eq-MOST_ANSWER_DEPTH.true

pub returns-then-is_deep : goal.returns-then-is_deep
returns-then-is_deep t c =
    let s = c.args.bindings.now in
    let n = c.met-met.result.term.base in
    let ts = c.in-Compound.args.now in
    let i = c.loop-term.term-index in
    argument_deep MOST_ANSWER_DEPTH (c.args.above + 1) s n ts i c.term-item.result c.loop-term-test.true c.term-item.is c.is_deep.result c.is_deep.ensures c.if-is_deep.true
    ∙ ap (nat_lt MOST_ANSWER_DEPTH) (plus_one c.args.above (greatest_depth (args_full s n (drop i ts))))
    ∙ c.loop-term.invariant

pub loop-term-preserved : goal.loop-term-preserved
loop-term-preserved t c =
    let s = c.args.bindings.now in
    let n = c.met-met.result.term.base in
    let ts = c.in-Compound.args.now in
    let i = c.loop-term.term-index in
    ap (nat_lt MOST_ANSWER_DEPTH) (sym (plus_one c.args.above (greatest_depth (args_full s n (drop (i + 1) ts)))))
    ∙ argument_not_deep MOST_ANSWER_DEPTH (c.args.above + 1) s n ts i c.term-item.result c.loop-term-test.true c.term-item.is c.is_deep.result c.is_deep.ensures c.if-is_deep.false (omega (arith, c.requires, c.if-above-eq-MOST_ANSWER_DEPTH.false))
    ∙ ap (nat_lt MOST_ANSWER_DEPTH) (plus_one c.args.above (greatest_depth (args_full s n (drop i ts))))
    ∙ c.loop-term.invariant
