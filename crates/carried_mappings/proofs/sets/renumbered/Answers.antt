use Rattle.std.proofs.Common.{◌≡◌, ◌+◌, ◌++◌, ◌∷◌, [], ℕ, suc, List, drop, slice_get, get_or, nat_eq, Some, if◌then◌else◌, true, false, ap, sym, ◌∙◌, arith}
use Rattle.std.specs.List.{list_any}
use Rattle.termination_model.proofs.Lists.{append_assoc, there}
use Rattle.level_systems.proofs.PairLists.{drop_at}
use Rattle.carried_mappings.specs.Reordered.{renumbered_from}
use Rattle.carried_mappings.proofs.sets.renumbered.Goals.{then-has_number+in_ok-push, else-has_number}
use Rattle.carried_mappings.proofs.sets.renumbered.Goals as goal

pub loop-i-preserved : goal.loop-i-preserved
loop-i-preserved c =
    let numbers = c.args.numbers.now in
    let set = c.args.set.now in
    let i = c.loop-i.i in
    let x : ℕ = get_or numbers i 0 in
    let at : slice_get numbers i ≡ Some x = there numbers i 0 c.loop-i-test.true in
    let next : suc (i + 1) ≡ i + 1 + 1 = omega arith in
    let rest = renumbered_from (i + 1 + 1) (drop (i + 1) numbers) set in
    let step = ap (λ (ns : List ℕ). renumbered_from (i + 1) ns set) (drop_at numbers i x at)
    ∙ ap (λ (n : ℕ). if list_any (λ y. nat_eq x y) set then (i + 1) ∷ renumbered_from n (drop (i + 1) numbers) set else renumbered_from n (drop (i + 1) numbers) set) next in
    let test : list_any (λ y. nat_eq x y) set ≡ c.has_number.result = sym c.has_number.ensures in
    elim c.if-has_number.branch [
      | then-has_number+in_ok-push w ↦
          let yes : list_any (λ y. nat_eq x y) set ≡ true = test ∙ w.if-has_number.true in
          ap (λ v. v.items ++ rest) w.now-is
          ∙ ap (λ (s : List ℕ). s ++ rest) w.in_ok-push.ensures.items
          ∙ append_assoc c.loop-i.now.items ((i + 1) ∷ []) rest
          ∙ sym (ap (λ (s : List ℕ). c.loop-i.now.items ++ s) (step ∙ (λ j. if yes j then (i + 1) ∷ rest else rest)))
          ∙ c.loop-i.invariant
      | else-has_number w ↦
          let no_more : list_any (λ y. nat_eq x y) set ≡ false = test ∙ w.if-has_number.false in
          ap (λ v. v.items ++ rest) w.now-is
          ∙ sym (ap (λ (s : List ℕ). c.loop-i.now.items ++ s) (step ∙ (λ j. if no_more j then (i + 1) ∷ rest else rest)))
          ∙ c.loop-i.invariant
    ]
