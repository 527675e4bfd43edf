use Rattle.std.proofs.Common.{◌∙◌, ◌++◌, List, map, sym, ap, subst, append-nil}
use Rattle.std.proofs.lemmas.List.{drop_all}
use Rattle.clause_normal.specs.declared.part.Item.{Item}
use Rattle.clause_normal.specs.Query.{query_calls}
use Rattle.clause_normal.specs.RuleViews.{call_of}
use Rattle.clause_normal.specs.Views.{item_goal, ItemIsFit}
use Rattle.clause_variables.proofs.ListLemmas.{all_at}
use Rattle.clause_normal.proofs.QueryLemmas.{calls_next}
use Rattle.clause_normal.proofs.query.item_calls.Goals as goal

pub items-preserved : goal.items-preserved
items-preserved c =
    let items = c.args.items.now in
    let i = c.items.item-index in
    let it = c.item-item.result in
    let inv = c.items.invariant in
    let add = c.in_ok-add_call.ensures in
    record {
      calls = calls_next items i it c.items-test.true c.item-item.is (map call_of c.items.calls.items) (map call_of c.add_call.new.calls.items) (query_calls (map item_goal items)) add.calls inv.calls;
      fit = λ names h. add.fit names (subst (ItemIsFit names) (sym c.item-item.is) (all_at (ItemIsFit names) items i it h c.items-test.true)) (inv.fit names h);
      named = add.named inv.named;
    }

pub returns-clause-calls : goal.returns-clause-calls
returns-clause-calls c =
    sym (append-nil (map call_of c.items.calls.items))
    ∙ ap (λ (is : List Item). map call_of c.items.calls.items ++ query_calls (map item_goal is)) (sym (drop_all c.items.item-index c.args.items.now c.items-test.false))
    ∙ c.items.invariant.calls
