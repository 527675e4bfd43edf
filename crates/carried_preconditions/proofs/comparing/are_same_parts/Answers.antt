use Rattle.std.proofs.Common.{◌≡◌, arith, length, refl, slice_get, Some, subst}
use Rattle.number_tests.specs.declared.level_part.LevelPart.{LevelPart}
use Rattle.termination_model.proofs.Lists.{at_place}
use Rattle.solved_program.proofs.Comparisons.{SameTo, same_more}
use Rattle.carried_preconditions.specs.Same.{coefficients_in}
use Rattle.carried_preconditions.proofs.Same.{all_places, mapped_at}
use Rattle.carried_preconditions.proofs.comparing.are_same_parts.Goals as goal

abbrev Alike : LevelPart → LevelPart → Type 0
Alike x y = coefficients_in x ≡ coefficients_in y

pub loop-i-preserved : goal.loop-i-preserved
loop-i-preserved c =
    let xs = c.args.a.now in
    let ys = c.args.b.now in
    let n = c.loop-i.i in
    let x = c.index-a-i.result in
    let y = c.index-b-i.result in
    let at : slice_get xs n ≡ Some x = at_place xs n x (omega arith) c.index-a-i.is in
    let there : slice_get ys n ≡ Some y = at_place ys n y (omega arith) c.index-b-i.is in
    same_more Alike n xs ys x y c.loop-i.invariant at there (c.is_same_part.ensures.0 c.if-not-is_same_part.false)

pub returns-then-not-is_same_part : goal.returns-then-not-is_same_part
returns-then-not-is_same_part c =
    let xs = c.args.a.now in
    let ys = c.args.b.now in
    let n = c.loop-i.i in
    let x = c.index-a-i.result in
    let y = c.index-b-i.result in
    let at : slice_get xs n ≡ Some x = at_place xs n x (omega arith) c.index-a-i.is in
    let there : slice_get ys n ≡ Some y = at_place ys n y (omega arith) c.index-b-i.is in (
      λ is. cc,
      λ e.
          let same = mapped_at coefficients_in xs ys e n x y at there in
          let right = c.is_same_part.ensures.1 same in
          let wrong = c.if-not-is_same_part.true in
          cc,
    )

pub returns : goal.returns
returns c =
    let xs = c.args.a.now in
    let ys = c.args.b.now in
    let l : length xs ≡ length ys = omega arith in
    let n : c.loop-i.i ≡ length xs = omega arith in
    let same = all_places coefficients_in xs ys l (subst (λ k. SameTo Alike k xs ys) n c.loop-i.invariant) in
    (λ is. same, λ e. refl)
