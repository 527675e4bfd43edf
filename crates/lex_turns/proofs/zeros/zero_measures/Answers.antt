use Rattle.std.proofs.Common.{◌≡◌, ◌<◌, ◌++◌, ◌∷◌, [], ℕ, get_or, length, map, slice_get, take, Some, ap, sym, subst, ◌∙◌}
use Rattle.std.specs.List.{AllByRecursion}
use Rattle.call_components.specs.Numbers.{number_of}
use Rattle.call_components.proofs.Lists.{all_append}
use Rattle.cti_terms.specs.declared.predicates.PredId.{PredId}
use Rattle.level_systems.specs.Valued.{IsPartOf}
use Rattle.level_systems.specs.declared.measure.Measure.{Measure}
use Rattle.termination_model.specs.mappings.Ready.{arity_in}
use Rattle.termination_model.specs.mappings.SupportSystem.{mapping_at}
use Rattle.termination_model.proofs.Lists.{by_places, map_push, mapped_place, taken_more, there}
use Rattle.lex_turns.proofs.zeros.zero_measures.Goals as goal

pub zero_part-requires : goal.zero_part-requires
zero_part-requires c =
    let items = c.args.members.now in
    let i = c.loop-member.member-index in
    let x : PredId = get_or items i (record { 0 = 0 }) in
    let at : slice_get items i ≡ Some x = there items i (record { 0 = 0 }) c.loop-member-test.true in
    by_places (λ (q : ℕ). q < length c.args.p.now.preds) (map number_of items) c.requires i x.0 (mapped_place number_of items i x at)

pub loop-member-preserved : goal.loop-member-preserved
loop-member-preserved c =
    let items = c.args.members.now in
    let i = c.loop-member.member-index in
    let x : PredId = get_or items i (record { 0 = 0 }) in
    let at : slice_get items i ≡ Some x = there items i (record { 0 = 0 }) c.loop-member-test.true in
    let m : Measure = record { pred = x; part = c.in_ok-part.part } in
    let pushed = c.in_ok-push.ensures.ok in
    let inv = c.loop-member.invariant in
    record {
      each =
          ap (map (λ (y : Measure). y.pred.0)) pushed ∙ map_push (λ (y : Measure). y.pred.0) c.loop-member.measures m ∙ (λ j. inv.each j ++ x.0 ∷ [])
          ∙ sym (ap (map number_of) (taken_more items i x at) ∙ map_push number_of (take i items) x);
      parts = subst (AllByRecursion (λ (y : Measure). IsPartOf (mapping_at (arity_in c.args.p.now) [] [] [] []) y.pred.0 y.part)) (sym pushed)
          (all_append (λ (y : Measure). IsPartOf (mapping_at (arity_in c.args.p.now) [] [] [] []) y.pred.0 y.part) c.loop-member.measures (m ∷ []) inv.parts (c.in_ok-part.ensures, tt));
    }
