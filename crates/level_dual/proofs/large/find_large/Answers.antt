use Rattle.std.proofs.Common.{◌≡◌, ◌++◌, ◌∷◌, [], ℕ, suc, List, map, length, None, true, ap, sym, subst, ◌∙◌}
use Rattle.termination_model.specs.mappings.ComponentViews.{positions_in}
use Rattle.level_systems.specs.Found.{IsFound}
use Rattle.level_systems.specs.Held.{spelled}
use Rattle.level_dual.specs.Large.{IsLeftOut}
use Rattle.level_systems.specs.Mappings.{support_of}
use Rattle.level_systems.specs.Subsequences.{AreOnce}
use Rattle.level_dual.specs.declared.large.LeftOut.TheVariants.{None as NoneLeft}
use Rattle.level_systems.specs.declared.mapping.Mapping.{Mapping}
use Rattle.level_systems.specs.declared.position.Position.{Position}
use Rattle.level_dual.proofs.LargeLaws.{large_found, set_once}
use Rattle.level_dual.proofs.WalkLaws.{sets_in}
use Rattle.level_dual.proofs.large.find_large.Goals as goal

pub returns-in-None-clause-found : goal.returns-in-None-clause-found
returns-in-None-clause-found c = λ size truth expression comps rows r h large before.
    let p = c.args.p.now in
    let x = c.args.component.now in
    let m : Mapping = c.loop-mapping.mapping in
    let had = c.loop-mapping.invariant size truth expression comps rows r h before in
    let places = positions_in p comps r in
    let sup : c.as_slice-in-loop-mapping.result.now ≡ support_of places m =
    c.as_slice-in-loop-mapping.ensures.value ∙ c.in_ok-support.ensures ∙ ap (λ (ps : List Position). support_of (map spelled ps) m) c.as_slice.ensures.value ∙ ap (λ ps. support_of ps m) h.positions in
    let set = sets_in size truth expression p comps rows r x h (support_of places m) had.1 in
    let once : AreOnce c.as_slice-in-loop-mapping.result.now =
    subst AreOnce (sym sup) (set_once 1 (suc (length places)) (support_of places m) set) in
    let left = subst (IsLeftOut expression p comps rows r c.as_slice-in-loop-mapping.result.now) c.in-None.is (c.in_ok-smaller.ensures.left_out size truth expression comps rows r h once) in
    let found = large_found expression p comps rows r large m had c.in-None.blown (subst (λ (s : List ℕ). IsLeftOut expression p comps rows r s (NoneLeft c.in-None.blown)) sup left) set in
    subst (λ ms. IsFound expression p comps rows r (record { mappings = ms; refutation = None; blown = c.in-None.blown; large = true }))
    (sym (c.in_ok-push-in-None.ensures.ok ∙ ap (λ ms. ms ++ m ∷ []) c.new-mappings.ensures)) found

pub loop-mapping-preserved : goal.loop-mapping-preserved
loop-mapping-preserved c = λ size truth expression comps rows r h before.
    let p = c.args.p.now in
    let x = c.args.component.now in
    let m : Mapping = c.loop-mapping.mapping in
    let had = c.loop-mapping.invariant size truth expression comps rows r h before in
    let places = positions_in p comps r in
    let sup : c.as_slice-in-loop-mapping.result.now ≡ support_of places m =
    c.as_slice-in-loop-mapping.ensures.value ∙ c.in_ok-support.ensures ∙ ap (λ (ps : List Position). support_of (map spelled ps) m) c.as_slice.ensures.value ∙ ap (λ ps. support_of ps m) h.positions in
    let once : AreOnce c.as_slice-in-loop-mapping.result.now =
    subst AreOnce (sym sup) (set_once 1 (suc (length places)) (support_of places m) (sets_in size truth expression p comps rows r x h (support_of places m) had.1)) in
    subst (IsLeftOut expression p comps rows r c.as_slice-in-loop-mapping.result.now) c.in-Smaller.is (c.in_ok-smaller.ensures.left_out size truth expression comps rows r h once)
