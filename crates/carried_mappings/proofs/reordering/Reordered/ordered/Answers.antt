use Rattle.std.proofs.Common.{◌≡◌, ◌<◌, ◌++◌, [], ◌∙◌, ℕ, List, ap, arith, get_or, length, map, slice_get, Some, sym}
use Rattle.std.specs.List.{flat_map}
use Rattle.termination_model.proofs.Lists.{any_default, there}
use Rattle.carried_mappings.specs.Reordered.{of_set}
use Rattle.carried_mappings.specs.Reorderings.{mapping_now, set_now}
use Rattle.carried_mappings.proofs.BySets.{by_sets_few, by_sets_many, flat_more}
use Rattle.carried_mappings.proofs.Orders.{take_whole}
use Rattle.carried_mappings.proofs.Resolved.{if_ok_to}
use Rattle.carried_mappings.proofs.reordering.Reordered.ordered.Goals as goal

pub loop-set-init : goal.loop-set-init
loop-set-init c = c.new-ordered.ensures

pub loop-set-preserved : goal.loop-set-preserved
loop-set-preserved c =
    let s = c.args.self.now in
    let ms = c.args.mappings.now in
    let sets = c.as_slice-set-items.result.now in
    let k = c.loop-set.set-index in
    let below : k < length sets = c.loop-set-test.true in
    let t : List ℕ = get_or sets k [] in
    let at : slice_get sets k ≡ Some t = there sets k [] below in
    let set : c.as_slice.result.now ≡ t = c.as_slice.ensures ∙ c.set-item.is ∙ any_default sets k c.set-item.result [] below in
    c.in_ok-add_of_set.ensures
    ∙ ap (λ (z : List ℕ). c.loop-set.ordered ++ map (mapping_now s) (of_set (set_now s) ms z)) set
    ∙ ap (λ z. z ++ map (mapping_now s) (of_set (set_now s) ms t)) c.loop-set.invariant
    ∙ sym (flat_more (mapping_now s) (of_set (set_now s) ms) sets k t at)

pub returns : goal.returns
returns c =
    let s = c.args.self.now in
    let ms = c.args.mappings.now in
    let sets = c.as_slice-set-items.result.now in
    let n = length s.numbers.now in
    let all = take_whole sets c.loop-set.set-index (omega (arith, c.loop-set-test.false, c.loop-set.auto.set-index-end)) ∙ c.as_slice-set-items.ensures ∙ c.in_ok-sets.ensures in
    c.loop-set.invariant
    ∙ ap (λ (ts : List (List ℕ)). map (mapping_now s) (flat_map (of_set (set_now s) ms) ts)) all
    ∙ ap (map (mapping_now s)) (sym (by_sets_many n (set_now s) ms c.if-mappings-le1.false))

pub returns-then-mappings-le1 : goal.returns-then-mappings-le1
returns-then-mappings-le1 c =
    let s = c.args.self.now in
    let ms = c.args.mappings.now in
    if_ok_to _ _ (λ z is. is ∙ ap (map (mapping_now s)) (sym (by_sets_few (length s.numbers.now) (set_now s) ms c.if-mappings-le1.true))) c.all.result c.all.ensures
