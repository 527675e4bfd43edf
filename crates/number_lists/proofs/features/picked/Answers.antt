use Rattle.std.proofs.Common.{◌≡◌, ◌+◌, ◌++◌, ◌∷◌, [], ℕ, suc, true, false, if◌then◌else◌, List, drop, get_or, nat_eq, slice_get, Some, ap, sym, ◌∙◌, arith}
use Rattle.std.specs.List.{list_any}
use Rattle.termination_model.proofs.Lists.{append_assoc, there}
use Rattle.level_systems.proofs.PairLists.{drop_at}
use Rattle.number_lists.specs.Features.{picked_from}
use Rattle.number_lists.specs.declared.position.Position.{Position}
use Rattle.number_lists.proofs.features.picked.Goals.{then-has_number+in_ok-push, else-has_number}
use Rattle.number_lists.proofs.features.picked.Goals as goal

pub loop-i-preserved : goal.loop-i-preserved
loop-i-preserved c =
    let positions = c.args.positions.now in
    let set = c.args.set.now in
    let i = c.loop-i.i in
    let none : Position = record { member = 0; first = 0; count = 0 } in
    let x : Position = get_or positions i none in
    let at : slice_get positions i ≡ Some x = there positions i none c.loop-i-test.true in
    let next : suc (i + 1) ≡ i + 1 + 1 = omega arith in
    let rest = picked_from (i + 1 + 1) (drop (i + 1) positions) set in
    let step = ap (λ (ps : List Position). picked_from (i + 1) ps set) (drop_at positions i x at)
    ∙ ap (λ (n : ℕ). if list_any (λ y. nat_eq (i + 1) y) set then x ∷ picked_from n (drop (i + 1) positions) set else picked_from n (drop (i + 1) positions) set) next in
    elim c.if-has_number.branch [
      | then-has_number+in_ok-push w ↦
          let yes : list_any (λ y. nat_eq (i + 1) y) set ≡ true = sym c.has_number.ensures ∙ w.if-has_number.true in
          ap (λ v. v.items ++ rest) w.at-is
          ∙ ap (λ (ps : List Position). ps ++ rest) w.in_ok-push.ensures.items
          ∙ append_assoc c.loop-i.at.items (x ∷ []) rest
          ∙ sym (ap (λ (s : List Position). c.loop-i.at.items ++ s) (step ∙ (λ j. if yes j then x ∷ rest else rest)))
          ∙ c.loop-i.invariant
      | else-has_number w ↦
          let no_more : list_any (λ y. nat_eq (i + 1) y) set ≡ false = sym c.has_number.ensures ∙ w.if-has_number.false in
          ap (λ v. v.items ++ rest) w.at-is
          ∙ sym (ap (λ (s : List Position). c.loop-i.at.items ++ s) (step ∙ (λ j. if no_more j then x ∷ rest else rest)))
          ∙ c.loop-i.invariant
    ]
