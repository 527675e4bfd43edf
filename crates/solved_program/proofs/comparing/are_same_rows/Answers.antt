use Rattle.std.proofs.Common.{◌≡◌, ◌∙◌, ap, arith, length, refl, slice_get, Some, subst, sym}
use Rattle.linear_rows.specs.Plain.{plain_row, plain_rows}
use Rattle.linear_rows.specs.declared.row.Row.{Row}
use Rattle.termination_model.proofs.Lists.{at_place}
use Rattle.solved_program.proofs.Comparisons.{SameTo, none_same, row_at, rows_of_places, same_more}
use Rattle.solved_program.proofs.comparing.are_same_rows.Goals as goal

abbrev Alike : Row → Row → Type 0
Alike x y = plain_row x ≡ plain_row y

pub loop-i-init : goal.loop-i-init
loop-i-init c = none_same Alike c.as_slice-xs.result.now c.as_slice-ys.result.now

pub loop-i-preserved : goal.loop-i-preserved
loop-i-preserved c =
    let xs = c.as_slice-xs.result.now in
    let ys = c.as_slice-ys.result.now in
    let n = c.loop-i.i in
    let x = c.index-xs-i.result in
    let y = c.index-ys-i.result in
    let at : slice_get xs n ≡ Some x = at_place xs n x (omega arith) c.index-xs-i.is in
    let there : slice_get ys n ≡ Some y = at_place ys n y (omega arith) c.index-ys-i.is in
    same_more Alike n xs ys x y c.loop-i.invariant at there (c.is_same_row.ensures.0 c.if-not-is_same_row.false)

pub returns-then-not-is_same_row : goal.returns-then-not-is_same_row
returns-then-not-is_same_row c =
    let xs = c.as_slice-xs.result.now in
    let ys = c.as_slice-ys.result.now in
    let n = c.loop-i.i in
    let x = c.index-xs-i.result in
    let y = c.index-ys-i.result in
    let at : slice_get xs n ≡ Some x = at_place xs n x (omega arith) c.index-xs-i.is in
    let there : slice_get ys n ≡ Some y = at_place ys n y (omega arith) c.index-ys-i.is in (
      λ is. cc,
      λ e.
          let same = row_at xs ys (ap plain_rows c.as_slice-xs.ensures ∙ e ∙ sym (ap plain_rows c.as_slice-ys.ensures)) n x y at there in
          let right = c.is_same_row.ensures.1 same in
          let wrong = c.if-not-is_same_row.true in
          cc,
    )

pub returns : goal.returns
returns c =
    let xs = c.as_slice-xs.result.now in
    let ys = c.as_slice-ys.result.now in
    let l : length xs ≡ length ys = omega arith in
    let n : c.loop-i.i ≡ length xs = omega arith in
    let same = rows_of_places xs ys l (subst (λ k. SameTo Alike k xs ys) n c.loop-i.invariant) in
    (λ is. ap plain_rows (sym c.as_slice-xs.ensures) ∙ same ∙ ap plain_rows c.as_slice-ys.ensures, λ e. refl)
