use Rattle.std.proofs.Common.{◌≡◌, ◌∙◌, List, Some, length, map, sym, ap, subst}
use Rattle.std.specs.List.{AllByRecursion}
use Rattle.prolog_terms.specs.Terms.{tree_of}
use Rattle.clause_normal.specs.declared.part.Item.{Item}
use Rattle.clause_normal.specs.Bodies.{Goal}
use Rattle.clause_normal.specs.Faults.{IfFault}
use Rattle.clause_normal.specs.Query.{query_goals, query_fault, query_calls}
use Rattle.clause_normal.specs.Views.{item_goal, ItemIsFit}
use Rattle.clause_normal.proofs.OutcomeLemmas.{fault_err}
use Rattle.clause_normal.proofs.query.conjunction.Goals as goal

pub returns-in_err-check_items-clause-fault : goal.returns-in_err-check_items-clause-fault
returns-in_err-check_items-clause-fault c =
    let goals : map item_goal c.deref.result.now ≡ query_goals c.args.names.now (tree_of c.args.query.now) = ap (λ (is : List Item). map item_goal is) c.deref.ensures.value ∙ c.in_ok-items.ensures.goals in
    fault_err _ c.from_residual-in_err-check_items.result c.in_err-check_items.field-0.0 c.from_residual-in_err-check_items.ensures
    (subst (λ (gs : List Goal). IfFault c.in_err-check_items.field-0.0 (λ f. query_fault gs ≡ Some f)) goals c.in_err-check_items.ensures)

pub returns-clause-fault : goal.returns-clause-fault
returns-clause-fault c =
    let goals : map item_goal c.deref.result.now ≡ query_goals c.args.names.now (tree_of c.args.query.now) = ap (λ (is : List Item). map item_goal is) c.deref.ensures.value ∙ c.in_ok-items.ensures.goals in
    sym (ap query_fault goals) ∙ c.in_ok-check_items.ensures

pub returns-clause-calls : goal.returns-clause-calls
returns-clause-calls c =
    c.in_ok-calls.ensures.calls ∙ ap (λ (is : List Item). query_calls (map item_goal is)) c.deref-2.ensures.value ∙ ap query_calls c.in_ok-items.ensures.goals

pub returns-clause-fit : goal.returns-clause-fit
returns-clause-fit c =
    let n = length c.args.names.now in
    c.in_ok-calls.ensures.fit n (subst (λ (is : List Item). AllByRecursion (ItemIsFit n) is) (sym c.deref-2.ensures.value) c.in_ok-items.ensures.fit)
