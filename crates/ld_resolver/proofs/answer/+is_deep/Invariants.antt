use Rattle.std.proofs.Common.{◌≡◌, ◌+◌, ◌-◌, nat_lt, drop}
use Rattle.cti_terms.specs.Answers.{depth_of, greatest_depth}
use Rattle.cti_terms.specs.declared.limits.TheConstants.{MOST_ANSWER_DEPTH}
use Rattle.unifier.specs.Raised.{raised_tree}
use Rattle.unifier.specs.Store.{full}
use Rattle.unifier.specs.Pending.{args_full}
use Rattle.ld_resolver.proofs.answer.+is_deep.Given as goal

abbrev pub invariant-loop-term : goal.invariant-loop-term
invariant-loop-term l = nat_lt MOST_ANSWER_DEPTH (l.above + (1 + greatest_depth (args_full l.bindings l.base (drop l.term-index l.args)))) ≡ nat_lt MOST_ANSWER_DEPTH (l.above + depth_of (full l.bindings (raised_tree l.fn.term)))

abbrev pub decreases-is_deep : goal.decreases-is_deep
decreases-is_deep l = MOST_ANSWER_DEPTH - l.above
