use Rattle.std.proofs.Common.{◌≡◌, ◌++◌, ℕ, map, drop}
use Rattle.std.specs.List.{AllByRecursion}
use Rattle.clause_normal.specs.declared.rule.Call.{Call}
use Rattle.clause_normal.specs.Query.{query_calls}
use Rattle.clause_normal.specs.RuleViews.{call_of, CallIsFit, IsNamed}
use Rattle.clause_normal.specs.Views.{item_goal, ItemIsFit}
use Rattle.clause_normal.proofs.query.item_calls.Given as goal

abbrev pub invariant-items : goal.invariant-items
invariant-items l = record {
  calls : map call_of l.calls.items ++ query_calls (map item_goal (drop l.item-index l.items)) ≡ query_calls (map item_goal l.items);
  fit : (names : ℕ) → AllByRecursion (ItemIsFit names) l.items → AllByRecursion (CallIsFit names) l.calls.items;
  named : AllByRecursion (λ (c : Call). IsNamed c.functor) l.calls.items;
}
