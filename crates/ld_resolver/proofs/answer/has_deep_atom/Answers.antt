use Rattle.std.proofs.Common.{nat_lt, ap, ◌∙◌}
use Rattle.cti_terms.specs.declared.limits.TheConstants.{MOST_ANSWER_DEPTH}
use Rattle.ld_resolver.proofs.AnswerLaws.{atom_depth, atom_deep, atom_not_deep}
use Rattle.ld_resolver.proofs.answer.has_deep_atom.Goals as goal

pub returns-then-has_deep_argument : goal.returns-then-has_deep_argument
returns-then-has_deep_argument c =
    let s = c.args.bindings.now in
    let a = c.atom-item.result in
    let found = c.has_deep_argument.ensures ∙ ap (nat_lt MOST_ANSWER_DEPTH) (atom_depth s a c.as_slice.result.now c.as_slice.ensures) in
    atom_deep MOST_ANSWER_DEPTH s c.args.query.now c.loop-atom.atom-index a c.loop-atom-test.true c.atom-item.is c.has_deep_argument.result found c.if-has_deep_argument.true
    ∙ c.loop-atom.invariant

pub loop-atom-preserved : goal.loop-atom-preserved
loop-atom-preserved c =
    let s = c.args.bindings.now in
    let a = c.atom-item.result in
    let found = c.has_deep_argument.ensures ∙ ap (nat_lt MOST_ANSWER_DEPTH) (atom_depth s a c.as_slice.result.now c.as_slice.ensures) in
    atom_not_deep MOST_ANSWER_DEPTH s c.args.query.now c.loop-atom.atom-index a c.loop-atom-test.true c.atom-item.is c.has_deep_argument.result found c.if-has_deep_argument.false
    ∙ c.loop-atom.invariant
