use Rattle.std.proofs.Common.{◌≡◌, ◌+◌, ◌++◌, ◌∷◌, [], ℕ, suc, List, map, drop, slice_get, get_or, Some, if◌then◌else◌, true, false, ap, sym, ◌∙◌, arith}
use Rattle.termination_model.proofs.Lists.{append_assoc, there}
use Rattle.level_systems.specs.Held.{spelled}
use Rattle.level_systems.specs.declared.position.Position.{Position}
use Rattle.level_systems.proofs.PairLists.{drop_at}
use Rattle.lex_turns.specs.FoundLists.{is_used, list_support_from, mappings_of}
use Rattle.lex_turns.proofs.large.support_of.Goals.{then-is_used+in_ok-push, else-is_used}
use Rattle.lex_turns.proofs.large.support_of.Goals as goal

pub loop-i-preserved : goal.loop-i-preserved
loop-i-preserved c =
    let positions = c.args.positions.now in
    let ls = mappings_of c.args.list.now in
    let i = c.loop-i.i in
    let x : Position = get_or positions i (record { pred = record { 0 = 0 }; argument = 0 }) in
    let at : slice_get positions i ≡ Some x = there positions i (record { pred = record { 0 = 0 }; argument = 0 }) c.loop-i-test.true in
    let next : suc (i + 1) ≡ i + 1 + 1 = omega arith in
    let rest = list_support_from (i + 1 + 1) (map spelled (drop (i + 1) positions)) ls in
    let step = ap (λ (ps : List Position). list_support_from (i + 1) (map spelled ps) ls) (drop_at positions i x at)
    ∙ ap (λ (n : ℕ). if is_used (spelled x) ls then (i + 1) ∷ list_support_from n (map spelled (drop (i + 1) positions)) ls else list_support_from n (map spelled (drop (i + 1) positions)) ls) next in
    let test : is_used (spelled x) ls ≡ c.is_used.result = sym c.is_used.ensures in
    elim c.if-is_used.branch [
      | then-is_used+in_ok-push w ↦
          let yes : is_used (spelled x) ls ≡ true = test ∙ w.if-is_used.true in
          ap (λ v. v.items ++ rest) w.support-is
          ∙ ap (λ (s : List ℕ). s ++ rest) w.in_ok-push.ensures.items
          ∙ append_assoc c.loop-i.support.items ((i + 1) ∷ []) rest
          ∙ sym (ap (λ (s : List ℕ). c.loop-i.support.items ++ s) (step ∙ (λ j. if yes j then (i + 1) ∷ rest else rest)))
          ∙ c.loop-i.invariant
      | else-is_used w ↦
          let no_more : is_used (spelled x) ls ≡ false = test ∙ w.if-is_used.false in
          ap (λ v. v.items ++ rest) w.support-is
          ∙ sym (ap (λ (s : List ℕ). c.loop-i.support.items ++ s) (step ∙ (λ j. if no_more j then (i + 1) ∷ rest else rest)))
          ∙ c.loop-i.invariant
    ]
