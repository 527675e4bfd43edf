use Rattle.std.proofs.Common.{◌≡◌, ◌++◌, ◌∷◌, [], ℕ, suc, List, map, length, None, true, ap, sym, subst, ◌∙◌}
use Rattle.termination_model.specs.mappings.ComponentViews.{positions_in}
use Rattle.level_systems.specs.Held.{spelled}
use Rattle.level_systems.specs.Subsequences.{AreOnce}
use Rattle.level_systems.specs.declared.position.Position.{Position}
use Rattle.level_dual.proofs.LargeLaws.{set_once}
use Rattle.lex_turns.specs.FoundLists.{AreFoundLists, support_of_list}
use Rattle.lex_turns.specs.Large.{IsLeftOut}
use Rattle.lex_turns.specs.declared.large.LeftOut.TheVariants.{None as NoneLeft}
use Rattle.lex_turns.specs.declared.measure_list.MeasureList.{MeasureList}
use Rattle.lex_turns.proofs.ListSupports.{list_sets}
use Rattle.lex_turns.proofs.SparePositions.{spare_found}
use Rattle.lex_turns.proofs.large.find_large.Goals as goal

pub returns-in-None : goal.returns-in-None
returns-in-None c = λ size truth expression comps rows r h large before.
    let p = c.args.p.now in
    let x = c.args.component.now in
    let l : MeasureList = c.loop-list.list in
    let had = c.loop-list.invariant size truth expression comps rows r h before in
    let places = positions_in p comps r in
    let sup : c.as_slice-in-loop-list.result.now ≡ support_of_list places l =
    c.as_slice-in-loop-list.ensures.value ∙ c.in_ok-support.ensures ∙ ap (λ (ps : List Position). support_of_list (map spelled ps) l) c.as_slice.ensures.value ∙ ap (λ ps. support_of_list ps l) h.positions in
    let once : AreOnce c.as_slice-in-loop-list.result.now = subst AreOnce (sym sup) (set_once 1 (suc (length places)) (support_of_list places l) (list_sets expression p comps rows r (support_of_list places l) had.has)) in
    let left = subst (IsLeftOut expression p comps rows r c.as_slice-in-loop-list.result.now) c.in-None.is (c.in_ok-smaller.ensures.left_out size truth expression comps rows r h once) in
    let found = spare_found expression p comps rows r large l had c.in-None.blown (subst (λ (s : List ℕ). IsLeftOut expression p comps rows r s (NoneLeft c.in-None.blown)) sup left) in
    subst (λ ls. AreFoundLists expression p comps rows r (record { lists = ls; refutation = None; blown = c.in-None.blown; large = true }))
    (sym (c.in_ok-push-in-None.ensures.ok ∙ ap (λ ls. ls ++ l ∷ []) c.new-lists.ensures)) found

pub loop-list-preserved : goal.loop-list-preserved
loop-list-preserved c = λ size truth expression comps rows r h before.
    let p = c.args.p.now in
    let l : MeasureList = c.loop-list.list in
    let had = c.loop-list.invariant size truth expression comps rows r h before in
    let places = positions_in p comps r in
    let sup : c.as_slice-in-loop-list.result.now ≡ support_of_list places l =
    c.as_slice-in-loop-list.ensures.value ∙ c.in_ok-support.ensures ∙ ap (λ (ps : List Position). support_of_list (map spelled ps) l) c.as_slice.ensures.value ∙ ap (λ ps. support_of_list ps l) h.positions in
    let once : AreOnce c.as_slice-in-loop-list.result.now = subst AreOnce (sym sup) (set_once 1 (suc (length places)) (support_of_list places l) (list_sets expression p comps rows r (support_of_list places l) had.has)) in
    subst (IsLeftOut expression p comps rows r c.as_slice-in-loop-list.result.now) c.in-Smaller.is (c.in_ok-smaller.ensures.left_out size truth expression comps rows r h once)
