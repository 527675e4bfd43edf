use Rattle.std.proofs.Common.{◌≡◌, ◌++◌, map}
use Rattle.clause_variables.specs.Terms.{list_variables}
use Rattle.clause_variables.specs.TermViews.{plain_of}
use Rattle.clause_variables.specs.Stacks.{stack_variables, stack_work}
use Rattle.clause_variables.proofs.variables.add_variables.Given as goal

abbrev pub invariant-terms : goal.invariant-terms
invariant-terms l = l.variables.items ++ stack_variables l.stack.items ≡ l.fn.variables.items ++ list_variables (map plain_of l.terms)

abbrev pub decreases-terms : goal.decreases-terms
decreases-terms l = stack_work l.stack.items
