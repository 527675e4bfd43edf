use Rattle.std.proofs.Common.{◌≡◌, ◌∷◌, [], ℕ, List, inl, inr, get_or, sym, subst, ◌∙◌}
use Rattle.linear_rows.proofs.Members.{of-append}
use Rattle.termination_model.specs.grounds.Minimal.{IsExcluded}
use Rattle.termination_model.specs.mappings.ComponentViews.{HasSupportIn}
use Rattle.level_systems.specs.Found.{without_number}
use Rattle.level_systems.specs.Searched.{IsAnswer}
use Rattle.level_dual.specs.Needed.{AreNeeded}
use Rattle.level_dual.proofs.needed.needed_positions.Goals.{in-Refuted+in_ok-push-in-Refuted, in-Mapping, in-Blown}
use Rattle.level_dual.proofs.needed.needed_positions.Goals as goal

pub loop-number-preserved : goal.loop-number-preserved
loop-number-preserved c = λ size truth expression comps rows r h.
    let p = c.args.p.now in
    let s = c.args.full.now in
    let i = get_or s c.loop-number.number-index 0 in
    let has : List ℕ → Type 0 = HasSupportIn expression p comps rows r in
    let before = c.loop-number.invariant size truth expression comps rows r h in
    let slice : c.as_slice.result.now ≡ without_number i s = c.as_slice.ensures ∙ c.in_ok-set.ensures in
    elim c.match-branch-3.branch [
      | in-Refuted+in_ok-push-in-Refuted w ↦
          let refuted = subst (IsAnswer expression p comps rows r c.as_slice.result.now) w.in-Refuted.is (c.in_ok-search.ensures size truth expression comps rows r h) in
          let excluded : IsExcluded has (without_number i s) = subst (IsExcluded has) slice refuted in
          subst (AreNeeded expression p comps rows r s) (sym ((λ k. (w.needed-is k).items) ∙ w.in_ok-push-in-Refuted.ensures.items)) (λ j k. elim (of-append c.loop-number.needed.items (i ∷ []) j k) [
            | inl old ↦ before j old
            | inr (inl e) ↦ subst (λ n. IsExcluded has (without_number n s)) e excluded
            | inr (inr none) ↦ absurd none
          ])
      | in-Mapping w ↦ subst (AreNeeded expression p comps rows r s) (λ k. (sym w.needed-is k).items) before
      | in-Blown w ↦ subst (AreNeeded expression p comps rows r s) (λ k. (sym w.needed-is k).items) before
    ]
