use Rattle.std.proofs.Common.{◌++◌, ◌∷◌, [], ◌∙◌, arith, get_or, map, sym, take}
use Rattle.call_components.specs.Numbers.{number_of}
use Rattle.cti_terms.specs.declared.predicates.PredId.{PredId}
use Rattle.termination_model.proofs.Lists.{any_default, by_places, there}
use Rattle.carried_mappings.specs.Reordered.{no_measure, placed}
use Rattle.carried_mappings.proofs.Placing.{placed_more}
use Rattle.carried_mappings.proofs.reordering.Reordered.parts.Goals as goal

abbrev none : PredId
none = record { 0 = 0 }

pub loop-i-preserved : goal.loop-i-preserved
loop-i-preserved c =
    let s = c.args.self.now in
    let rs = s.members.now in
    let js = s.places.now in
    let ms = c.args.measures.now in
    let i = c.loop-i.i in
    let q = get_or rs i none in
    let j = get_or js i 0 in
    let at = there rs i none (omega (arith, c.requires.reordered.each)) in
    let at_place = there js i 0 (omega (arith, c.requires.reordered.each)) in
    let below = by_places _ js c.requires.places i j at_place in
    let same = any_default ms j c.index-measures-self.result no_measure below in
    c.in_ok-push.ensures.ok
    ∙ (λ k. c.loop-i.invariant k ++ record { pred = q; part = c.in_ok-part.ensures k } ∷ [])
    ∙ (λ k. placed (map number_of (take i rs)) (take i js) ms ++ record { pred = q; part = (same k).part } ∷ [])
    ∙ sym (placed_more rs js ms i q j at at_place)
