use Rattle.std.proofs.Common.{rules, ◌≡◌, ◌∙◌, ◌≤ℤ◌, ℤ, pos, List, length, slice_get, Some, refl, ap, sym, arith, FitsSigned}
use Rattle.std.specs.Int.{w128}
use Rattle.std.proofs.lemmas.Int.{ints, to_z-of_z}
use Rattle.std.proofs.lemmas.List.{length-map}
use Rattle.exact128.specs.Sums.{dot}
use Rattle.linear_rows.specs.Plain.{plain_row, plain_rows}
use Rattle.linear_rows.specs.declared.row.Row.{Row}
use Rattle.number_tests.specs.Refuting.{numbers_of}
use Rattle.number_tests.specs.SystemPoints.{ValueHolds}
use Rattle.termination_model.proofs.Lists.{at_place, by_places, from_places, mapped_place}
use Rattle.transition_tests.proofs.Places.{up_all, up_next}
use Rattle.transition_tests.proofs.points.rows_hold.Goals.{After-value_at}
use Rattle.transition_tests.proofs.points.rows_hold.Goals as goal

-- the row that the loop is at
module _ (c : After-value_at) where
  row_at : slice_get (plain_rows c.args.rows.now.list) c.loop-row.row-index ≡ Some (plain_row c.row-item.result)
  row_at =
      let n = c.loop-row.row-index in
      mapped_place plain_row c.args.rows.now.list n c.row-item.result
      (ap (λ (rs : List Row). slice_get rs n) (sym c.as_slice-row-items.ensures) ∙ at_place c.as_slice-row-items.result.now n c.row-item.result c.loop-row-test.true c.row-item.is)

pub loop-row-init : goal.loop-row-init
loop-row-init c = λ k lt. absurd (omega (arith, lt))

pub returns-in_default : goal.returns-in_default
returns-in_default c =
    let here = (goal.at.returns-in_default c).After-value_at in (
      λ no. cc,
      λ all. absurd (c.in_default.ensures (by_places (ValueHolds c.args.point.now) (plain_rows c.args.rows.now.list) all c.loop-row.row-index (plain_row c.row-item.result) (row_at here)).0),
    )

pub returns-then-value-lt0 : goal.returns-then-value-lt0
returns-then-value-lt0 c =
    let here = (goal.at.returns-then-value-lt0 c).After-value_at in
    let fv : FitsSigned w128 c.in-Some.value = search rules in
    let value = c.in-Some.ensures in
    let lower = simp to_z-of_z at c.if-value-lt0.true in (
      λ no. cc,
      λ all.
          let holds : pos 0 ≤ℤ dot (plain_row c.row-item.result) (numbers_of c.args.point.now) = (by_places (ValueHolds c.args.point.now) (plain_rows c.args.rows.now.list) all c.loop-row.row-index (plain_row c.row-item.result) (row_at here)).1 in
          absurd (omega (arith, ints, lower, holds, value.1)),
    )

pub loop-row-preserved : goal.loop-row-preserved
loop-row-preserved c =
    let here = (goal.at.loop-row-preserved c).After-value_at in
    let fv : FitsSigned w128 c.in-Some.value = search rules in
    let value = c.in-Some.ensures in
    let higher = simp to_z-of_z at c.if-value-lt0.false in
    up_next (λ _ (r : List ℤ). ValueHolds c.args.point.now r) (plain_rows c.args.rows.now.list) c.loop-row.row-index (plain_row c.row-item.result) c.loop-row.invariant (row_at here)
    (value.0, omega (arith, ints, higher, value.1))

pub returns : goal.returns
returns c = (
  λ _. from_places (ValueHolds c.args.point.now) (plain_rows c.args.rows.now.list)
      (up_all (λ _ (r : List ℤ). ValueHolds c.args.point.now r) (plain_rows c.args.rows.now.list) c.loop-row.row-index c.loop-row.invariant
      (omega (arith, c.loop-row-test.false, ap length c.as_slice-row-items.ensures, length-map c.args.rows.now.list plain_row))),
  λ _. refl,
)
