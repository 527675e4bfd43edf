use Rattle.std.proofs.Common.{◌≡◌, ◌++◌, ◌∷◌, map, drop}
use Rattle.clause_normal.specs.Numbering.{call_variables}
use Rattle.clause_normal.specs.RuleViews.{call_of}
use Rattle.clause_normal.proofs.numbering.rule_variables.Given as goal

abbrev pub invariant-calls : goal.invariant-calls
invariant-calls l = l.variables.items ++ call_variables (map call_of (drop l.call-index l.call-items)) ≡ call_variables (call_of l.rule.head ∷ map call_of l.call-items)
