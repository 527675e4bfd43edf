use Rattle.std.proofs.Common.{◌≡◌, ◌++◌, map, drop}
use Rattle.cti_terms.specs.Tree.{instance}
use Rattle.cti_terms.specs.Spell.{tree_of}
use Rattle.unifier.specs.Raised.{raise}
use Rattle.unifier.specs.Pending.{raw}
use Rattle.unifier.proofs.occurs_check.push_arguments.Given as goal

abbrev pub invariant-loop-term : goal.invariant-loop-term
invariant-loop-term l =
    raw l.stack.items ++ map (instance (raise l.base)) (map tree_of (drop l.term-index l.args)) ≡ raw l.fn.stack.items ++ map (instance (raise l.base)) (map tree_of l.args)
