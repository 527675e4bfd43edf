use Rattle.std.proofs.Common.{◌≡◌, ◌<◌, List, length, Some, slice_get, ap, sym, subst, ◌∙◌, arith}
use Rattle.lex_turns.specs.declared.call_drops.CallDrops.{CallDrops}
use Rattle.lex_turns.specs.declared.measure_list.MeasureList.{MeasureList}
use Rattle.termination_model.proofs.Lists.{one_element, there}
use Rattle.lex_measures.specs.Lists.{AreDropsAt}
use Rattle.lex_measures.proofs.DropLaws.{one_more}
use Rattle.lex_measures.proofs.places.are_at.Goals as goal

pub loop-list-preserved : goal.loop-list-preserved
loop-list-preserved c =
    let m : MeasureList = c.list-item.result in
    let lt : c.loop-list.list-index < length c.args.lists.now = omega arith in
    let f : CallDrops = c.in-Some.drops.now in
    let looked = c.in-Some.ensures.lookup.3 in
    let at : slice_get m.drops c.args.at ≡ Some f = subst (λ (fs : List CallDrops). slice_get fs c.args.at ≡ Some f) c.as_slice.ensures (there c.as_slice.result.now c.args.at f looked.0 ∙ ap Some (sym (looked.1 f))) in
    one_more (λ (x : MeasureList). AreDropsAt x.drops c.args.at c.args.clause c.args.call) c.args.lists.now c.loop-list.list-index m m lt c.list-item.is c.loop-list.invariant
    (λ g e. let same : f ≡ g = one_element m.drops c.args.at f g at e in (ap (λ (x : CallDrops). x.clause) (sym same) ∙ c.if-drops-clause.true, ap (λ (x : CallDrops). x.call) (sym same) ∙ c.if-drops-call.true))
