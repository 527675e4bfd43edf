use Rattle.std.proofs.Common.{◌≡◌, ◌+◌, ◌++◌, ◌∷◌, [], ℕ, suc, List, map, drop, slice_get, get_or, Some, if◌then◌else◌, true, false, ap, sym, ◌∙◌, arith}
use Rattle.termination_model.specs.mappings.Supports.{support_from}
use Rattle.termination_model.proofs.Lists.{append_assoc, there}
use Rattle.level_systems.specs.Held.{spelled}
use Rattle.level_dual.specs.Large.{has_coefficient}
use Rattle.level_systems.specs.Mappings.{mapping_with}
use Rattle.level_systems.specs.declared.measure.Measure.{Measure}
use Rattle.level_systems.specs.declared.position.Position.{Position}
use Rattle.level_systems.proofs.PairLists.{drop_at}
use Rattle.level_dual.proofs.large.support_of.Goals.{then-has_coefficient+in_ok-push, else-has_coefficient}
use Rattle.level_dual.proofs.large.support_of.Goals as goal

pub loop-i-preserved : goal.loop-i-preserved
loop-i-preserved c =
    let positions = c.args.positions.now in
    let ms = c.args.mapping.now.measures in
    let m = mapping_with ms in
    let i = c.loop-i.i in
    let x : Position = get_or positions i (record { pred = record { 0 = 0 }; argument = 0 }) in
    let at : slice_get positions i ≡ Some x = there positions i (record { pred = record { 0 = 0 }; argument = 0 }) c.loop-i-test.true in
    let next : suc (i + 1) ≡ i + 1 + 1 = omega arith in
    let rest = support_from (i + 1 + 1) (map spelled (drop (i + 1) positions)) m in
    let step = ap (λ (ps : List Position). support_from (i + 1) (map spelled ps) m) (drop_at positions i x at)
    ∙ ap (λ (n : ℕ). if has_coefficient ms (spelled x) then (i + 1) ∷ support_from n (map spelled (drop (i + 1) positions)) m else support_from n (map spelled (drop (i + 1) positions)) m) next in
    let test : has_coefficient ms (spelled x) ≡ c.has_coefficient.result = ap (λ (ys : List Measure). has_coefficient ys (spelled x)) (sym c.as_slice.ensures) ∙ sym c.has_coefficient.ensures in
    elim c.if-has_coefficient.branch [
      | then-has_coefficient+in_ok-push w ↦
          let yes : has_coefficient ms (spelled x) ≡ true = test ∙ w.if-has_coefficient.true in
          ap (λ v. v.items ++ rest) w.support-is
          ∙ ap (λ (s : List ℕ). s ++ rest) w.in_ok-push.ensures.items
          ∙ append_assoc c.loop-i.support.items ((i + 1) ∷ []) rest
          ∙ sym (ap (λ (s : List ℕ). c.loop-i.support.items ++ s) (step ∙ (λ j. if yes j then (i + 1) ∷ rest else rest)))
          ∙ c.loop-i.invariant
      | else-has_coefficient w ↦
          let no_more : has_coefficient ms (spelled x) ≡ false = test ∙ w.if-has_coefficient.false in
          ap (λ v. v.items ++ rest) w.support-is
          ∙ sym (ap (λ (s : List ℕ). c.loop-i.support.items ++ s) (step ∙ (λ j. if no_more j then (i + 1) ∷ rest else rest)))
          ∙ c.loop-i.invariant
    ]
