use Rattle.std.proofs.Common.{◌≡◌, ◌+◌, ◌++◌, ◌∷◌, [], true, false, if◌then◌else◌, List, drop, filter, get_or, map, slice_get, Some, ap, sym, ◌∙◌}
use Rattle.std.specs.List.{list_any}
use Rattle.termination_model.specs.mappings.BlownSupports.{same_position}
use Rattle.termination_model.specs.mappings.OwnCalls.{Position as Place}
use Rattle.termination_model.proofs.Lists.{append_assoc, map_push, there}
use Rattle.level_systems.specs.Held.{spelled}
use Rattle.level_systems.specs.declared.position.Position.{Position}
use Rattle.level_systems.proofs.MemberLists.{any_mapped}
use Rattle.level_systems.proofs.PairLists.{drop_at}
use Rattle.level_systems.proofs.picking.in_order.Goals.{then-is_picked+in_ok-push, else-is_picked}
use Rattle.level_systems.proofs.picking.in_order.Goals as goal

pub loop-position-preserved : goal.loop-position-preserved
loop-position-preserved c =
    let order = c.args.order.now in
    let picked = map spelled c.args.picked.now in
    let i = c.loop-position.position-index in
    let x : Position = get_or order i (record { pred = record { 0 = 0 }; argument = 0 }) in
    let at : slice_get order i ≡ Some x = there order i (record { pred = record { 0 = 0 }; argument = 0 }) c.loop-position-test.true in
    let rest = filter (λ r. list_any (same_position r) picked) (map spelled (drop (i + 1) order)) in
    let step = ap (λ (ps : List Position). filter (λ r. list_any (same_position r) picked) (map spelled ps)) (drop_at order i x at) in
    let test = any_mapped (same_position (spelled x)) spelled c.args.picked.now ∙ sym c.is_picked.ensures in
    elim c.if-is_picked.branch [
      | then-is_picked+in_ok-push w ↦
          let yes : list_any (same_position (spelled x)) picked ≡ true = test ∙ w.if-is_picked.true in
          let now = ap (λ v. map spelled v.items ++ rest) w.at-is in
          now
          ∙ ap (λ (ps : List Position). map spelled ps ++ rest) w.in_ok-push.ensures.items
          ∙ ap (λ (s : List Place). s ++ rest) (map_push spelled c.loop-position.at.items x)
          ∙ append_assoc (map spelled c.loop-position.at.items) (spelled x ∷ []) rest
          ∙ sym (ap (λ (s : List Place). map spelled c.loop-position.at.items ++ s) (step ∙ (λ j. if yes j then spelled x ∷ rest else rest)))
          ∙ c.loop-position.invariant
      | else-is_picked w ↦
          let no_more : list_any (same_position (spelled x)) picked ≡ false = test ∙ w.if-is_picked.false in
          ap (λ v. map spelled v.items ++ rest) w.at-is
          ∙ sym (ap (λ (s : List Place). map spelled c.loop-position.at.items ++ s) (step ∙ (λ j. if no_more j then spelled x ∷ rest else rest)))
          ∙ c.loop-position.invariant
    ]
