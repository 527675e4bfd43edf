use Rattle.std.proofs.Common.{◌≡◌, ◌++◌, IsTrue, length, map, Bor}
use Rattle.std.specs.List.{AllByRecursion}
use Rattle.prolog_terms.specs.Clauses.{is_known}
use Rattle.prolog_terms.specs.declared.term.ReadTerm.{ReadTerm}
use Rattle.prolog_terms.specs.Terms.{tree_of}
use Rattle.clause_normal.specs.Query.{query_goals}
use Rattle.clause_normal.specs.Stacks.{stack_query, stack_nodes}
use Rattle.clause_normal.specs.Views.{item_goal, ItemIsFit}
use Rattle.clause_normal.proofs.query.query_items.Given as goal

abbrev pub invariant-parts : goal.invariant-parts
invariant-parts l = record {
  goals : map item_goal l.items.items ++ stack_query l.names l.stack.items ≡ query_goals l.names (tree_of l.query);
  fit : AllByRecursion (ItemIsFit (length l.names)) l.items.items;
  stack_fit : AllByRecursion (λ (t : Bor ReadTerm). IsTrue (is_known (length l.names) (tree_of t.now))) l.stack.items;
}

abbrev pub decreases-parts : goal.decreases-parts
decreases-parts l = stack_nodes l.stack.items
