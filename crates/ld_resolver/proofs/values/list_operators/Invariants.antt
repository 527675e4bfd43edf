use Rattle.std.proofs.Common.{◌≡◌, ◌∷◌, [], option_map}
use Rattle.unifier.specs.Raised.{raised_tree}
use Rattle.unifier.specs.Store.{full}
use Rattle.unifier.specs.Pending.{raw, weight}
use Rattle.ld_resolver.specs.Values.{judged, all_judged, stack_by}
use Rattle.ld_resolver.proofs.ValueLaws.{waiting_terms}
use Rattle.ld_resolver.proofs.values.list_operators.Given as goal

abbrev pub invariant-loop-next : goal.invariant-loop-next
invariant-loop-next l =
    option_map (stack_by l.operators.items) (all_judged l.names (waiting_terms l.bindings l.stack.items)) ≡ option_map (λ j. j ∷ []) (judged l.names (full l.bindings (raised_tree l.fn.term)))

abbrev pub decreases-loop-next : goal.decreases-loop-next
decreases-loop-next l = weight l.bindings (raw l.stack.items)
