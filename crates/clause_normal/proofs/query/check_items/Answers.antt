use Rattle.std.proofs.Common.{◌∙◌, List, map, sym, ap}
use Rattle.std.proofs.lemmas.List.{drop_all}
use Rattle.clause_normal.specs.declared.part.Item.{Item}
use Rattle.clause_normal.specs.Query.{query_fault}
use Rattle.clause_normal.specs.Views.{item_goal}
use Rattle.clause_normal.proofs.QueryLemmas.{fault_next, fault_found}
use Rattle.clause_normal.proofs.query.check_items.Goals as goal

pub returns-in-Some : goal.returns-in-Some
returns-in-Some c =
    fault_found c.args.items.now c.items.item-index c.item-item.result c.items-test.true c.item-item.is (c.in-Some.kind, c.in-Some.at) c.in-Some.ensures c.items.invariant

pub items-preserved : goal.items-preserved
items-preserved c =
    fault_next c.args.items.now c.items.item-index c.item-item.result c.items-test.true c.item-item.is c.in_default.ensures c.items.invariant

pub returns : goal.returns
returns c =
    sym c.items.invariant ∙ ap (λ (is : List Item). query_fault (map item_goal is)) (drop_all c.items.item-index c.args.items.now c.items-test.false)
