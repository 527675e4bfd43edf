use Rattle.std.proofs.Common.{ℕ, ap, length, subst}
use Rattle.termination_model.specs.mappings.ComponentViews.{HasSupportIn}
use Rattle.termination_model.specs.grounds.Minimal.{IsExcluded}
use Rattle.level_systems.specs.Searched.{IsAnswer}
use Rattle.level_dual.specs.Vanishing.{AreMarkedOrIn}
use Rattle.level_dual.proofs.VanishLaws.{void_of}
use Rattle.level_dual.proofs.excluding.is_void.Goals as goal

pub returns-in-Refuted : goal.returns-in-Refuted
returns-in-Refuted c = λ yes size truth expression comps rows r h.
    let p = c.args.p.now in
    let rest = c.in_ok-rest.rest.items in
    let covers = subst (λ (n : ℕ). AreMarkedOrIn n c.args.marks.now rest) (ap length c.as_slice.ensures.value) c.in_ok-rest.ensures in
    let excluded = subst (IsAnswer expression p comps rows r c.as_slice-2.result.now) c.in-Refuted.is (c.in_ok-search.ensures size truth expression comps rows r h) in
    void_of expression p comps rows r c.args.component.now.positions.items h.positions c.args.marks.now rest covers (subst (IsExcluded (HasSupportIn expression p comps rows r)) c.as_slice-2.ensures.value excluded)
