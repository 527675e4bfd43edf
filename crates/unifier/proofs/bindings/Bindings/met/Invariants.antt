use Rattle.std.proofs.Common.{◌≡◌}
use Rattle.unifier.specs.Raised.{raised_tree}
use Rattle.unifier.specs.Store.{full, chain_of}
use Rattle.unifier.proofs.bindings.Bindings.met.Given as goal

abbrev pub invariant-loop-x : goal.invariant-loop-x
invariant-loop-x l = full l.self (raised_tree l.now) ≡ full l.self (raised_tree l.fn.term)

abbrev pub decreases-loop-x : goal.decreases-loop-x
decreases-loop-x l = chain_of l.self (raised_tree l.now)
