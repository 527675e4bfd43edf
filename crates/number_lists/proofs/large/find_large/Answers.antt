use Rattle.std.proofs.Common.{◌≡◌, ◌++◌, ◌∷◌, [], ℕ, suc, List, map, length, None, true, ap, sym, subst, ◌∙◌}
use Rattle.level_systems.specs.Subsequences.{AreOnce}
use Rattle.level_dual.proofs.LargeLaws.{set_once}
use Rattle.number_turns.specs.Recalled.{recalled}
use Rattle.number_lists.specs.FoundLists.{AreFoundLists, support_of_list}
use Rattle.number_lists.specs.Large.{IsLeftOut}
use Rattle.number_lists.specs.declared.large.LeftOut.TheVariants.{None as NoneLeft}
use Rattle.number_lists.specs.declared.measure_list.MeasureList.{MeasureList}
use Rattle.number_lists.proofs.HeldSupports.{held_support}
use Rattle.number_lists.proofs.ListSupports.{list_sets}
use Rattle.number_lists.proofs.SparePositions.{spare_found}
use Rattle.number_lists.proofs.large.find_large.Goals as goal

pub returns-in-None : goal.returns-in-None
returns-in-None c = λ width are large before.
    let x = c.args.system.now in
    let members = x.members.now in
    let positions = x.positions.now in
    let τs = map recalled x.transitions.now in
    let l : MeasureList = c.loop-list.list in
    let had = c.loop-list.invariant width are before in
    let own = support_of_list members positions τs width l in
    let sup : c.as_slice.result.now ≡ own = c.as_slice.ensures.value ∙ c.in_ok-support.ensures ∙ held_support members positions τs width l.mappings are.columns had.list.shaped in
    let once : AreOnce c.as_slice.result.now = subst AreOnce (sym sup) (set_once 1 (suc (length positions)) own (list_sets members positions τs own had.has)) in
    let left = subst (IsLeftOut members positions τs width c.as_slice.result.now) c.in-None.is (c.in_ok-smaller.ensures.left_out width are once) in
    let found = spare_found members positions τs width large l had c.in-None.blown (subst (λ (s : List ℕ). IsLeftOut members positions τs width s (NoneLeft c.in-None.blown)) sup left) in
    subst (λ ls. AreFoundLists members positions τs width (record { lists = ls; stuck = None; blown = c.in-None.blown; large = true }))
    (sym (c.in_ok-push-in-None.ensures.ok ∙ ap (λ ls. ls ++ l ∷ []) c.new-lists.ensures)) found

pub loop-list-preserved : goal.loop-list-preserved
loop-list-preserved c = λ width are before.
    let x = c.args.system.now in
    let members = x.members.now in
    let positions = x.positions.now in
    let τs = map recalled x.transitions.now in
    let l : MeasureList = c.loop-list.list in
    let had = c.loop-list.invariant width are before in
    let own = support_of_list members positions τs width l in
    let sup : c.as_slice.result.now ≡ own = c.as_slice.ensures.value ∙ c.in_ok-support.ensures ∙ held_support members positions τs width l.mappings are.columns had.list.shaped in
    let once : AreOnce c.as_slice.result.now = subst AreOnce (sym sup) (set_once 1 (suc (length positions)) own (list_sets members positions τs own had.has)) in
    subst (IsLeftOut members positions τs width c.as_slice.result.now) c.in-Smaller.is (c.in_ok-smaller.ensures.left_out width are once)
