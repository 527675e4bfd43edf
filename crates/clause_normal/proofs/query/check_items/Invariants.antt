use Rattle.std.proofs.Common.{◌≡◌, map, drop}
use Rattle.clause_normal.specs.Query.{query_fault}
use Rattle.clause_normal.specs.Views.{item_goal}
use Rattle.clause_normal.proofs.query.check_items.Given as goal

abbrev pub invariant-items : goal.invariant-items
invariant-items l = query_fault (map item_goal (drop l.item-index l.items)) ≡ query_fault (map item_goal l.items)
