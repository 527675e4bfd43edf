use Rattle.std.proofs.Common.{◌≡◌, ◌+◌, nat_lt, drop}
use Rattle.cti_terms.specs.Answers.{greatest_depth}
use Rattle.cti_terms.specs.declared.limits.TheConstants.{MOST_ANSWER_DEPTH}
use Rattle.unifier.specs.Pending.{args_full}
use Rattle.ld_resolver.proofs.answer.has_deep_argument.Given as goal

abbrev pub invariant-loop-term : goal.invariant-loop-term
invariant-loop-term l = nat_lt MOST_ANSWER_DEPTH (1 + greatest_depth (args_full l.bindings 0 (drop l.term-index l.args))) ≡ nat_lt MOST_ANSWER_DEPTH (1 + greatest_depth (args_full l.bindings 0 l.args))
