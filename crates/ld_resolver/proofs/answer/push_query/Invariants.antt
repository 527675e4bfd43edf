use Rattle.std.proofs.Common.{◌≡◌, ◌++◌, drop}
use Rattle.unifier.specs.Pending.{raw}
use Rattle.ld_resolver.specs.Measured.{all_arguments}
use Rattle.ld_resolver.proofs.answer.push_query.Given as goal

abbrev pub invariant-loop-atom : goal.invariant-loop-atom
invariant-loop-atom l = raw l.stack.items ++ all_arguments (drop l.atom-index l.query) ≡ raw l.fn.stack.items ++ all_arguments l.query
