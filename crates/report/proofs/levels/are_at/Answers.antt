use Rattle.std.proofs.Common.{◌≡◌, ◌<◌, List, length, Some, slice_get, ap, sym, subst, ◌∙◌, arith}
use Rattle.level_systems.specs.declared.fall.Fall.{Fall}
use Rattle.level_systems.specs.declared.mapping.Mapping.{Mapping}
use Rattle.termination_model.proofs.Lists.{one_element, there}
use Rattle.report.specs.Levels.{IsFallAt}
use Rattle.report.proofs.FallLaws.{one_more}
use Rattle.report.proofs.levels.are_at.Goals as goal

pub loop-mapping-preserved : goal.loop-mapping-preserved
loop-mapping-preserved c =
    let m : Mapping = c.mapping-item.result in
    let lt : c.loop-mapping.mapping-index < length c.args.mappings.now = omega arith in
    let f : Fall = c.in-Some.fall.now in
    let looked = c.in-Some.ensures.lookup.3 in
    let at : slice_get m.falls c.args.at ≡ Some f = subst (λ (fs : List Fall). slice_get fs c.args.at ≡ Some f) c.as_slice.ensures (there c.as_slice.result.now c.args.at f looked.0 ∙ ap Some (sym (looked.1 f))) in
    one_more (λ (x : Mapping). IsFallAt x.falls c.args.at c.args.clause c.args.call) c.args.mappings.now c.loop-mapping.mapping-index m m lt c.mapping-item.is c.loop-mapping.invariant
    (λ g e. let same : f ≡ g = one_element m.falls c.args.at f g at e in (ap (λ (x : Fall). x.clause) (sym same) ∙ c.if-fall-clause.true, ap (λ (x : Fall). x.call) (sym same) ∙ c.if-fall-call.true))
