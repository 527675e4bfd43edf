use Rattle.std.proofs.Common.{◌≡◌, ◌+◌, ◌++◌, ◌∷◌, [], ℕ, suc, true, false, if◌then◌else◌, List, drop, get_or, map, nat_eq, slice_get, Some, ap, sym, ◌∙◌, arith}
use Rattle.std.specs.List.{list_any}
use Rattle.termination_model.specs.mappings.OwnCalls.{Position as Place}
use Rattle.termination_model.specs.mappings.Supports.{picked_from}
use Rattle.termination_model.proofs.Lists.{append_assoc, map_push, there}
use Rattle.level_systems.specs.Held.{spelled}
use Rattle.level_systems.specs.declared.position.Position.{Position}
use Rattle.level_systems.proofs.PairLists.{drop_at}
use Rattle.level_systems.proofs.picking.picked.Goals.{then-has_number+in_ok-push, else-has_number}
use Rattle.level_systems.proofs.picking.picked.Goals as goal

pub loop-i-preserved : goal.loop-i-preserved
loop-i-preserved c =
    let positions = c.args.positions.now in
    let set = c.args.set.now in
    let i = c.loop-i.i in
    let x : Position = get_or positions i (record { pred = record { 0 = 0 }; argument = 0 }) in
    let at : slice_get positions i ≡ Some x = there positions i (record { pred = record { 0 = 0 }; argument = 0 }) c.loop-i-test.true in
    let next : suc (i + 1) ≡ i + 1 + 1 = omega arith in
    let rest = picked_from (i + 1 + 1) (map spelled (drop (i + 1) positions)) set in
    let step = ap (λ (ps : List Position). picked_from (i + 1) (map spelled ps) set) (drop_at positions i x at)
    ∙ ap (λ (n : ℕ). if list_any (λ y. nat_eq (i + 1) y) set then spelled x ∷ picked_from n (map spelled (drop (i + 1) positions)) set else picked_from n (map spelled (drop (i + 1) positions)) set) next in
    elim c.if-has_number.branch [
      | then-has_number+in_ok-push w ↦
          let yes : list_any (λ y. nat_eq (i + 1) y) set ≡ true = sym c.has_number.ensures ∙ w.if-has_number.true in
          ap (λ v. map spelled v.items ++ rest) w.picked-is
          ∙ ap (λ (ps : List Position). map spelled ps ++ rest) w.in_ok-push.ensures.items
          ∙ ap (λ (s : List Place). s ++ rest) (map_push spelled c.loop-i.picked.items x)
          ∙ append_assoc (map spelled c.loop-i.picked.items) (spelled x ∷ []) rest
          ∙ sym (ap (λ (s : List Place). map spelled c.loop-i.picked.items ++ s) (step ∙ (λ j. if yes j then spelled x ∷ rest else rest)))
          ∙ c.loop-i.invariant
      | else-has_number w ↦
          let no_more : list_any (λ y. nat_eq (i + 1) y) set ≡ false = sym c.has_number.ensures ∙ w.if-has_number.false in
          ap (λ v. map spelled v.items ++ rest) w.picked-is
          ∙ sym (ap (λ (s : List Place). map spelled c.loop-i.picked.items ++ s) (step ∙ (λ j. if no_more j then spelled x ∷ rest else rest)))
          ∙ c.loop-i.invariant
    ]
