use Rattle.std.proofs.Common.{◌≡◌, ◌+◌, ◌++◌, ◌∷◌, [], ℕ, suc, List, drop, slice_get, get_or, Some, if◌then◌else◌, true, false, ap, sym, ◌∙◌, arith}
use Rattle.termination_model.proofs.Lists.{append_assoc, there}
use Rattle.level_systems.proofs.PairLists.{drop_at}
use Rattle.number_lists.specs.Large.{held_support_from, is_held_used}
use Rattle.number_lists.specs.declared.position.Position.{Position}
use Rattle.number_lists.proofs.supports.support_of.Goals.{then-is_used+in_ok-push, else-is_used}
use Rattle.number_lists.proofs.supports.support_of.Goals as goal

pub loop-i-preserved : goal.loop-i-preserved
loop-i-preserved c =
    let positions = c.args.positions.now in
    let ms = c.args.list.now.mappings in
    let i = c.loop-i.i in
    let none : Position = record { member = 0; first = 0; count = 0 } in
    let x : Position = get_or positions i none in
    let at : slice_get positions i ≡ Some x = there positions i none c.loop-i-test.true in
    let next : suc (i + 1) ≡ i + 1 + 1 = omega arith in
    let rest = held_support_from (i + 1 + 1) (drop (i + 1) positions) ms in
    let step = ap (λ (ps : List Position). held_support_from (i + 1) ps ms) (drop_at positions i x at)
    ∙ ap (λ (n : ℕ). if is_held_used x ms then (i + 1) ∷ held_support_from n (drop (i + 1) positions) ms else held_support_from n (drop (i + 1) positions) ms) next in
    let test : is_held_used x ms ≡ c.is_used.result = sym c.is_used.ensures in
    elim c.if-is_used.branch [
      | then-is_used+in_ok-push w ↦
          let yes : is_held_used x ms ≡ true = test ∙ w.if-is_used.true in
          ap (λ v. v.items ++ rest) w.support-is
          ∙ ap (λ (s : List ℕ). s ++ rest) w.in_ok-push.ensures.items
          ∙ append_assoc c.loop-i.support.items ((i + 1) ∷ []) rest
          ∙ sym (ap (λ (s : List ℕ). c.loop-i.support.items ++ s) (step ∙ (λ j. if yes j then (i + 1) ∷ rest else rest)))
          ∙ c.loop-i.invariant
      | else-is_used w ↦
          let no_more : is_held_used x ms ≡ false = test ∙ w.if-is_used.false in
          ap (λ v. v.items ++ rest) w.support-is
          ∙ sym (ap (λ (s : List ℕ). c.loop-i.support.items ++ s) (step ∙ (λ j. if no_more j then (i + 1) ∷ rest else rest)))
          ∙ c.loop-i.invariant
    ]
