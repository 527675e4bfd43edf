use Rattle.std.proofs.Common.{◌≡◌, ◌+◌, ◌<◌, ◌++◌, ◌∷◌, [], ◌∙◌, ℕ, true, false, List, arith, ap, cond, drop, get_or, length, map, slice_get, Some, sym}
use Rattle.level_systems.specs.declared.mapping.Mapping.{Mapping}
use Rattle.level_systems.proofs.PairLists.{drop_at}
use Rattle.termination_model.proofs.Lists.{any_default, append_assoc, mapped_place, one_element, there}
use Rattle.carried_mappings.specs.Reordered.{is_same_set, of_set}
use Rattle.carried_mappings.specs.Reorderings.{mapping_now, set_now}
use Rattle.carried_mappings.proofs.Renamed.{length_mapped}
use Rattle.carried_mappings.proofs.reordering.Reordered.add_of_set.Goals.{then-is_same_set+in_ok-next+in_ok-push, else-is_same_set}
use Rattle.carried_mappings.proofs.reordering.Reordered.add_of_set.Goals as goal

abbrev none : Mapping
none = record { measures = []; falls = [] }

pub loop-i-preserved : goal.loop-i-preserved
loop-i-preserved c =
    let s = c.args.self.now in
    let ms = c.args.mappings.now in
    let ss = c.args.supports.now in
    let t = c.args.set.now in
    let i = c.loop-i.i in
    let below : i < length ms = c.loop-i-test.true in
    let x : Mapping = get_or ms i none in
    let at : slice_get ms i ≡ Some x = there ms i none below in
    let long : length ss ≡ length ms = ap length c.requires.supports ∙ length_mapped (set_now s) ms in
    let here : slice_get ss i ≡ Some (get_or ss i c.index-supports-i.result) = there ss i c.index-supports-i.result (omega (arith, long, below)) in
    let there_is : slice_get ss i ≡ Some (set_now s x) = ap (λ (z : List (List ℕ)). slice_get z i) c.requires.supports ∙ mapped_place (set_now s) ms i x at in
    let support : c.as_slice.result.now ≡ set_now s x = c.as_slice.ensures ∙ c.index-supports-i.is ∙ one_element ss i (get_or ss i c.index-supports-i.result) (set_now s x) here there_is in
    let test : is_same_set (set_now s x) t ≡ c.is_same_set.result = ap (λ (z : List ℕ). is_same_set z t) (sym support) ∙ sym c.is_same_set.ensures in
    let others : List Mapping = of_set (set_now s) (drop (i + 1) ms) t in
    let rest : List Mapping = map (mapping_now s) others in
    let step = ap (λ (ys : List Mapping). of_set (set_now s) ys t) (drop_at ms i x at) in
    elim c.if-is_same_set.branch [
      | then-is_same_set+in_ok-next+in_ok-push w ↦
          let yes : is_same_set (set_now s x) t ≡ true = test ∙ w.if-is_same_set.true in
          let next = w.in_ok-next.ensures ∙ ap (mapping_now s) (w.index-mappings-i.is ∙ any_default ms i w.index-mappings-i.result none below) in
          ap (λ v. v ++ rest) (w.to-is ∙ w.in_ok-push.ensures.ok ∙ ap (λ (y : Mapping). c.loop-i.to ++ y ∷ []) next)
          ∙ append_assoc c.loop-i.to (mapping_now s x ∷ []) rest
          ∙ sym (ap (λ (ys : List Mapping). c.loop-i.to ++ map (mapping_now s) ys) (step ∙ (λ j. cond (yes j) (x ∷ others) others)))
          ∙ c.loop-i.invariant
      | else-is_same_set w ↦
          let no_more : is_same_set (set_now s x) t ≡ false = test ∙ w.if-is_same_set.false in
          ap (λ v. v ++ rest) w.to-is
          ∙ sym (ap (λ (ys : List Mapping). c.loop-i.to ++ map (mapping_now s) ys) (step ∙ (λ j. cond (no_more j) (x ∷ others) others)))
          ∙ c.loop-i.invariant
    ]
