use Rattle.std.proofs.Common.{◌≡◌, ◌<◌, ◌++◌, ◌∷◌, [], ℕ, pos, List, drop, get_or, length, map, slice_get, take, Some, ap, sym, subst, ◌∙◌, arith}
use Rattle.std.specs.Prelude.{unsigned_abs}
use Rattle.std.specs.List.{AllByRecursion}
use Rattle.std.proofs.lemmas.List.{length-map}
use Rattle.call_components.specs.Numbers.{number_of}
use Rattle.call_components.proofs.Lists.{all_append}
use Rattle.cti_terms.specs.declared.predicates.PredId.{PredId}
use Rattle.number_tests.specs.Shape.{IsLevelPart}
use Rattle.termination_model.specs.mappings.Ready.{arity_in}
use Rattle.termination_model.specs.mappings.SupportSystem.{mapping_at}
use Rattle.termination_model.proofs.Lists.{by_places, map_push, mapped_place, taken_more, there}
use Rattle.level_systems.specs.Held.{spelled}
use Rattle.level_systems.specs.Valued.{IsPartOf}
use Rattle.level_systems.specs.declared.measure.Measure.{Measure}
use Rattle.level_dual.proofs.PartLaws.{all_dropped, all_taken, are_naturals, part_shape}
use Rattle.level_dual.proofs.SearchLaws.{length_drop_at, length_take}
use Rattle.level_dual.proofs.searching.measures_at.Goals as goal

pub level_part-requires-clause-pred : goal.level_part-requires-clause-pred
level_part-requires-clause-pred c =
    let items = c.deref-member-items.result.now in
    let i = c.loop-member.member-index in
    let x : PredId = get_or items i (record { 0 = 0 }) in
    let at : slice_get items i ≡ Some x = there items i (record { 0 = 0 }) c.loop-member-test.true in
    let all = subst (λ (xs : List PredId). AllByRecursion (λ (q : ℕ). q < length c.args.p.now.preds) (map number_of xs)) (sym c.deref-member-items.ensures.value) c.requires.sound.members in
    by_places (λ (q : ℕ). q < length c.args.p.now.preds) (map number_of items) all i x.0 (mapped_place number_of items i x at)

pub loop-member-preserved : goal.loop-member-preserved
loop-member-preserved c =
    let items = c.deref-member-items.result.now in
    let members = c.args.component.now.members.items in
    let i = c.loop-member.member-index in
    let x : PredId = get_or items i (record { 0 = 0 }) in
    let at : slice_get items i ≡ Some x = there items i (record { 0 = 0 }) c.loop-member-test.true in
    let there_at : slice_get members i ≡ Some x = subst (λ (xs : List PredId). slice_get xs i ≡ Some x) c.deref-member-items.ensures.value at in
    let m : Measure = record { pred = x; part = c.in_ok-part.part } in
    let pushed = c.in_ok-push.ensures.ok in
    let inv = c.loop-member.invariant in
    let places = c.args.at.now in
    let values = c.args.values.now in
    let mine = c.args.component.now.by_clauses.items in
    let arity = arity_in c.args.p.now in
    let one : (cs os : List ℕ) → length cs ≡ length places → length os ≡ length mine → take (length places) values ≡ map pos cs → take (length mine) (drop (length places) values) ≡ map pos os
    → IsPartOf (mapping_at arity (map spelled places) (map number_of mine) cs os) x.0 c.in_ok-part.part =
    subst (λ (ms : List PredId). (cs os : List ℕ) → length cs ≡ length places → length os ≡ length ms → take (length places) values ≡ map pos cs → take (length ms) (drop (length places) values) ≡ map pos os
    → IsPartOf (mapping_at arity (map spelled places) (map number_of ms) cs os) x.0 c.in_ok-part.part) c.as_slice.ensures.value c.in_ok-part.ensures in
    let cs = map unsigned_abs (take (length places) values) in
    let os = map unsigned_abs (take (length mine) (drop (length places) values)) in
    let room = c.requires.room in
    let lc : length cs ≡ length places = length-map (take (length places) values) unsigned_abs ∙ length_take (length places) values (omega (arith, room)) in
    let lo : length os ≡ length mine =
    length-map (take (length mine) (drop (length places) values)) unsigned_abs ∙ length_take (length mine) (drop (length places) values) (length_drop_at (length places) (length mine) values room) in
    let here = one cs os lc lo (are_naturals (take (length places) values) (all_taken (length places) values c.requires.naturals))
    (are_naturals (take (length mine) (drop (length places) values)) (all_taken (length mine) (drop (length places) values) (all_dropped (length places) values c.requires.naturals))) in
    record {
      each =
          ap (map (λ (y : Measure). y.pred.0)) pushed ∙ map_push (λ (y : Measure). y.pred.0) c.loop-member.measures m ∙ (λ j. inv.each j ++ x.0 ∷ [])
          ∙ sym (ap (map number_of) (taken_more members i x there_at) ∙ map_push number_of (take i members) x);
      shape = subst (AllByRecursion (λ (y : Measure). IsLevelPart (arity y.pred.0) y.part)) (sym pushed)
          (all_append (λ (y : Measure). IsLevelPart (arity y.pred.0) y.part) c.loop-member.measures (m ∷ []) inv.shape
          (part_shape arity (map spelled places) (map number_of mine) cs os x.0 c.in_ok-part.part here, tt));
      parts = λ ds ps ld lp td tp.
          subst (AllByRecursion (λ (y : Measure). IsPartOf (mapping_at arity (map spelled places) (map number_of mine) ds ps) y.pred.0 y.part)) (sym pushed)
          (all_append (λ (y : Measure). IsPartOf (mapping_at arity (map spelled places) (map number_of mine) ds ps) y.pred.0 y.part) c.loop-member.measures (m ∷ []) (inv.parts ds ps ld lp td tp) (one ds ps ld lp td tp, tt));
    }
