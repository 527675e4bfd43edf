use Rattle.std.proofs.Common.{rules, ◌≡◌, ◌+◌, ◌-◌, ◌-ℤ◌, ◌≤◌, ◌++◌, ◌∷◌, [], FitsSigned, drop, pos, take, length, get_or, ap, sym, ◌∙◌, arith}
use Rattle.std.specs.Int.{w128}
use Rattle.std.proofs.lemmas.Int.{to_z-of_z}
use Rattle.std.proofs.lemmas.List.{length-drop, length-map, length-take-le, take_more}
use Rattle.linear_rows.specs.Replacing.{row_fits}
use Rattle.transitions.specs.Templates.{differences}
use Rattle.number_turns.proofs.Differences.{differences_more, fits_more, natural_at, later_at}
use Rattle.number_turns.proofs.found.numbers_at.Goals as goal

pub loop-i-preserved : goal.loop-i-preserved
loop-i-preserved c =
    let i = c.loop-i.i in
    let w = c.args.w.now in
    let count = c.args.count in
    let z = c.difference.result in
    let more : FitsSigned w128 (get_or w i (pos 0)) = search rules in
    let less : FitsSigned w128 (get_or w (count + i) (pos 0)) = search rules in
    let rest : FitsSigned w128 z = search rules in
    let told : z ≡ get_or w i (pos 0) -ℤ get_or w (count + i) (pos 0) = simp to_z-of_z at c.difference.ensures.value in
    let pushed : c.push.new.self ≡ c.loop-i.numbers ++ z ∷ [] = simp to_z-of_z at c.in_ok-push.ensures.ok in
    record {
      numbers = λ vs e.
          let all : count + count ≤ length vs = omega (arith, c.requires.room, ap length e, length-map vs pos) in
          let later = drop count vs in
          let there : length later ≡ length vs - count = length-drop count vs in
          let first = natural_at w vs i e (omega (arith, c.loop-i-test.true, all)) in
          let second = later_at w vs count i e (omega (arith, c.loop-i-test.true, all)) in
          let lengths : length (take i vs) ≡ length (take i later) = length-take-le i vs (omega (arith, c.loop-i-test.true, all)) ∙ sym (length-take-le i later (omega (arith, c.loop-i-test.true, all, there))) in
          pushed
          ∙ (λ j. c.loop-i.invariant.numbers vs e j ++ (told ∙ (λ k. first k -ℤ second k)) j ∷ [])
          ∙ sym (differences_more (take i vs) (take i later) (get_or vs i 0) (get_or later i 0) lengths)
          ∙ (λ j. differences (sym (take_more vs i 0 (omega (arith, c.loop-i-test.true, all))) j) (sym (take_more later i 0 (omega (arith, c.loop-i-test.true, all, there))) j));
      fit = ap row_fits pushed ∙ fits_more c.loop-i.numbers z c.loop-i.invariant.fit c.difference.ensures.fits;
    }
