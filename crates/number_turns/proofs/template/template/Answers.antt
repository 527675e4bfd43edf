use Rattle.std.proofs.Common.{◌≡◌, ◌+◌, ◌-◌, ◌++◌, ◌∷◌, [], List, drop, length, map, ap, sym, ◌∙◌, arith}
use Rattle.std.proofs.lemmas.List.{append-nil, drop_all}
use Rattle.linear_rows.specs.Plain.{plain_rows}
use Rattle.termination_model.proofs.Lists.{at_place, by_places}
use Rattle.transitions.specs.Templates.{template_rows_from}
use Rattle.number_turns.specs.Demanding.{HasItsNumbers, row_count, target_of}
use Rattle.number_turns.specs.Recalled.{spelled}
use Rattle.number_turns.specs.declared.demand.Demand.{Demand}
use Rattle.number_turns.proofs.RowLists.{drop_here}
use Rattle.number_turns.proofs.TemplateSteps.{one_demand}
use Rattle.number_turns.proofs.template.template.Goals as goal

pub add_rows-requires-clause-numbers : goal.add_rows-requires-clause-numbers
add_rows-requires-clause-numbers c =
    let demands = c.args.demands.now in
    let i = c.loop-demand.demand-index in
    by_places HasItsNumbers demands c.requires i c.demand-item.result (at_place demands i c.demand-item.result c.loop-demand-test.true c.demand-item.is)

pub loop-demand-preserved : goal.loop-demand-preserved
loop-demand-preserved c =
    let demands = c.args.demands.now in
    let i = c.loop-demand.demand-index in
    let demand : Demand = c.demand-item.result in
    let inv = c.loop-demand.invariant in
    let fs = map spelled c.args.features.now in
    let rest = drop (i + 1) demands in
    let here : drop i demands ≡ demand ∷ rest = drop_here demands i demand (at_place demands i demand c.loop-demand-test.true c.demand-item.is) in
    let long : c.len-rows.result ≡ length demand.transition.now.rows.list = c.len-rows.ensures in
    let counts : row_count (drop i demands) ≡ length demand.transition.now.rows.list + row_count rest = ap row_count here in
    let total = inv.count in
    record {
      count = omega (arith, total, counts, long);
      width = c.add_rows.ensures.width ∙ inv.width;
      widths = c.add_rows.ensures.widths inv.widths;
      rows =
          one_demand fs demand rest c.loop-demand.before (c.in_ok-count.count - c.loop-demand.before - c.len-rows.result) c.len-rows.result
          (plain_rows c.loop-demand.system.list) (plain_rows c.add_rows.new.system.list) (omega (arith, total, counts, long)) long c.in_ok-add_rows.ensures.rows
          ∙ sym (ap (λ (ds : List Demand). plain_rows c.loop-demand.system.list ++ template_rows_from c.loop-demand.before (map (target_of fs) ds)) here)
          ∙ inv.rows;
    }

pub returns-clause-rows : goal.returns-clause-rows
returns-clause-rows c =
    let demands = c.args.demands.now in
    let fs = map spelled c.args.features.now in
    let none : drop c.loop-demand.demand-index demands ≡ [] = drop_all c.loop-demand.demand-index demands (omega (arith, c.loop-demand-test.false)) in
    sym (append-nil (plain_rows c.loop-demand.system.list))
    ∙ sym (ap (λ (ds : List Demand). plain_rows c.loop-demand.system.list ++ template_rows_from c.loop-demand.before (map (target_of fs) ds)) none)
    ∙ c.loop-demand.invariant.rows
