use Rattle.std.proofs.Common.{◌≡◌, ◌≤◌, drop, length}
use Rattle.clause_variables.specs.Terms.{firsts, with_numbers}
use Rattle.clause_variables.proofs.order.firsts.Given as goal

abbrev pub invariant-numbers : goal.invariant-numbers
invariant-numbers l = record { whole : with_numbers l.order.items (drop l.x-index l.xs) ≡ firsts l.xs; few : length l.order.items ≤ l.most }
