use Rattle.std.proofs.Common.{◌≡◌, nat_lt, drop}
use Rattle.cti_terms.specs.Answers.{greatest_depth}
use Rattle.cti_terms.specs.declared.limits.TheConstants.{MOST_ANSWER_DEPTH}
use Rattle.ld_resolver.specs.Measured.{answered_terms}
use Rattle.ld_resolver.proofs.answer.has_deep_atom.Given as goal

abbrev pub invariant-loop-atom : goal.invariant-loop-atom
invariant-loop-atom l = nat_lt MOST_ANSWER_DEPTH (greatest_depth (answered_terms l.bindings (drop l.atom-index l.query))) ≡ nat_lt MOST_ANSWER_DEPTH (greatest_depth (answered_terms l.bindings l.query))
