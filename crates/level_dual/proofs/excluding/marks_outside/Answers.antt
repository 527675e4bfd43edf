use Rattle.std.proofs.Common.{List, sym, subst}
use Rattle.std.specs.List.{AllByRecursion}
use Rattle.termination_model.specs.mappings.ComponentViews.{positions_in}
use Rattle.level_dual.specs.Vanishing.{KeepsRays, Vanishes}
use Rattle.level_systems.specs.declared.position.Position.{Position}
use Rattle.level_dual.proofs.VanishLaws.{all_keep, vanishes_there}
use Rattle.level_dual.proofs.excluding.marks_outside.Goals as goal

pub returns : goal.returns
returns c = λ size truth expression comps rows r h void u part has.
    let p = c.args.p.now in
    let x = c.args.component.now in
    let l = has.mapping in
    let first = c.in_ok-marks.marks.items in
    let keeps = all_keep size truth expression p comps rows r x h l has.decreases in
    let start = vanishes_there x.positions.items (positions_in p comps r) l first u c.args.set.now h.positions has.is part c.in_ok-marks.ensures in
    let spread = c.spread.ensures l (subst (AllByRecursion (KeepsRays l)) (sym c.as_slice-3.ensures.value) keeps) (subst (λ (ps : List Position). Vanishes ps first l) (sym c.as_slice.ensures.value) start) in
    void l has.at has.decreases (subst (λ (ps : List Position). Vanishes ps c.spread.new.marks.items l) c.as_slice.ensures.value spread)
