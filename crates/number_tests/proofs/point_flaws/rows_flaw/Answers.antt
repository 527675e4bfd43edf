use Rattle.std.proofs.Common.{rules, ◌≡◌, ◌↔◌, ◌<◌, ◌≤ℤ◌, ℕ, ℤ, pos, true, false, List, length, slice_get, Option, None, Some, IfSome, refl, sym, subst, ap, ◌∙◌, arith, below_more, FitsSigned}
use Rattle.std.specs.Int.{w128}
use Rattle.std.proofs.lemmas.Int.{ints, to_z-of_z}
use Rattle.std.proofs.lemmas.List.{length-map}
use Rattle.exact128.specs.Sums.{dot}
use Rattle.linear_rows.specs.Plain.{plain_row, plain_rows}
use Rattle.linear_rows.specs.declared.row.Row.{Row}
use Rattle.termination_model.proofs.Lists.{at_place, by_places, from_places, mapped_place, one_element, place_below}
use Rattle.linear_rows.specs.declared.point.Point.{Point}
use Rattle.linear_rows.specs.declared.system.System.{System}
use Rattle.number_tests.specs.Refuting.{ValueFits, numbers_of}
use Rattle.number_tests.specs.SystemPoints.{SystemFails, SystemFits, SystemHolds, ValueHolds, fails, wide}
use Rattle.number_tests.specs.declared.flaw.Flaw.{Flaw}
use Rattle.number_tests.specs.declared.flaw.Flaw.TheVariants as flaw
use Rattle.number_tests.proofs.point_flaws.rows_flaw.Goals as goal
use Rattle.number_tests.proofs.point_flaws.rows_flaw.Goals.{then-value-lt0, else-value-lt0}

pub returns-in_default-clause-holds : goal.returns-in_default-clause-holds
returns-in_default-clause-holds c =
    let list = c.args.system.now.rows.list in
    let point = c.args.point.now in
    let es = plain_rows list in
    let n = c.loop-row.row-index in
    let row = plain_row c.row-item.result in
    let at : slice_get list n ≡ Some c.row-item.result = ap (λ (rs : List Row). slice_get rs n) (sym c.as_slice-row-items.ensures) ∙ at_place c.as_slice-row-items.result.now n c.row-item.result c.loop-row-test.true c.row-item.is in
    let there : slice_get es n ≡ Some row = mapped_place plain_row list n c.row-item.result at in
    (λ h. cc, λ all. absurd (c.in_default.ensures (by_places (ValueHolds point) es all.1 n row there).0))

pub returns-in_default-clause-fails : goal.returns-in_default-clause-fails
returns-in_default-clause-fails c =
    let list = c.args.system.now.rows.list in
    let point = c.args.point.now in
    let es = plain_rows list in
    let n = c.loop-row.row-index in
    let row = plain_row c.row-item.result in
    let at : slice_get list n ≡ Some c.row-item.result = ap (λ (rs : List Row). slice_get rs n) (sym c.as_slice-row-items.ensures) ∙ at_place c.as_slice-row-items.result.now n c.row-item.result c.loop-row-test.true c.row-item.is in
    let there : slice_get es n ≡ Some row = mapped_place plain_row list n c.row-item.result at in
    wide (λ fit. c.in_default.ensures (by_places (ValueFits point) es fit.1 n row there))

pub returns-then-system-clause-fails : goal.returns-then-system-clause-fails
returns-then-system-clause-fails c = wide (λ fit. let no : false ≡ true = sym fit.0 ∙ c.if-system.true in cc)

pub loop-row-preserved : goal.loop-row-preserved
loop-row-preserved c =
    let list = c.args.system.now.rows.list in
    let point = c.args.point.now in
    let es = plain_rows list in
    let n = c.loop-row.row-index in
    let row = plain_row c.row-item.result in
    let at : slice_get list n ≡ Some c.row-item.result = ap (λ (rs : List Row). slice_get rs n) (sym c.as_slice-row-items.ensures) ∙ at_place c.as_slice-row-items.result.now n c.row-item.result c.loop-row-test.true c.row-item.is in
    let there : slice_get es n ≡ Some row = mapped_place plain_row list n c.row-item.result at in
    let fv : FitsSigned w128 c.in-Some.value = search rules in
    let value = c.in-Some.ensures in
    let iff = c.loop-row.invariant.hold in
    let fit = below_more (λ (i : ℕ). (r : List ℤ) → slice_get es i ≡ Some r → ValueFits point r) n c.loop-row.invariant.fit (λ r er. subst (ValueFits point) (one_element es n row r there er) value.0) in
    elim c.if-value-lt0.branch [
      | then-value-lt0 w ↦ record {
        hold = (
          λ none. let e = w.below-is in cc,
          λ all.
              let holds : pos 0 ≤ℤ dot row (numbers_of point) = (all n (omega arith) row there).1 in
              let lower = simp to_z-of_z at w.if-value-lt0.true in
              absurd (omega (arith, ints, lower, holds, value.1)),
        );
        fit = fit;
        below = λ is. let e = w.below-is in cc;
      }
      | else-value-lt0 w ↦ record {
        hold = (
          λ none. below_more (λ (i : ℕ). (r : List ℤ) → slice_get es i ≡ Some r → ValueHolds point r) n (iff.0 (sym w.below-is ∙ none))
              (λ r er. subst (ValueHolds point) (one_element es n row r there er) (value.0, let higher = simp to_z-of_z at w.if-value-lt0.false in omega (arith, ints, higher, value.1))),
          λ all. w.below-is ∙ iff.1 (λ i lt r er. all i (omega arith) r er),
        );
        fit = fit;
        below = λ is. c.loop-row.invariant.below (sym w.below-is ∙ is);
      }
    ]

-- what is below 0 where all numbers fit
below_fails : (s : System) (x : Point) (o : Option Flaw) → (o ≡ Some flaw.Wide → ⊥) → SystemFits s x → (o ≡ None) ↔ SystemHolds s x → IfSome o (SystemFails s x)
below_fails s x None never fit iff = tt
below_fails s x (Some flaw.Wide) never fit iff = absurd (never refl)
below_fails s x (Some flaw.Fails) never fit iff = fails fit (λ h. let none : Some flaw.Fails ≡ None = iff.1 h in cc)

-- the rows that the loop has seen are all rows
decided : (s : System) (x : Point) (n : ℕ) (below : Option Flaw) → n ≡ length (plain_rows s.rows.list) → s.wide ≡ false
    → (below ≡ None) ↔ ((i : ℕ) → i < n → (row : List ℤ) → slice_get (plain_rows s.rows.list) i ≡ Some row → ValueHolds x row) → (below ≡ None) ↔ SystemHolds s x
decided s x n below all narrow iff = (
  λ none. (narrow, from_places (ValueHolds x) (plain_rows s.rows.list) (λ i r er. iff.0 none i (omega (arith, all, place_below (plain_rows s.rows.list) i r er)) r er)),
  λ h. iff.1 (λ i lt r er. by_places (ValueHolds x) (plain_rows s.rows.list) h.1 i r er),
)

pub returns-clause-holds : goal.returns-clause-holds
returns-clause-holds c =
    let all : c.loop-row.row-index ≡ length (plain_rows c.args.system.now.rows.list) = omega (arith, ap length c.as_slice-row-items.ensures, length-map c.args.system.now.rows.list plain_row) in
    decided c.args.system.now c.args.point.now c.loop-row.row-index c.loop-row.below all c.if-system.false c.loop-row.invariant.hold

pub returns-clause-fails : goal.returns-clause-fails
returns-clause-fails c =
    let s = c.args.system.now in
    let x = c.args.point.now in
    let es = plain_rows s.rows.list in
    let all : c.loop-row.row-index ≡ length es = omega (arith, ap length c.as_slice-row-items.ensures, length-map s.rows.list plain_row) in
    below_fails s x c.loop-row.below c.loop-row.invariant.below
    (c.if-system.false, from_places (ValueFits x) es (λ i r er. c.loop-row.invariant.fit i (omega (arith, all, place_below es i r er)) r er))
    (decided s x c.loop-row.row-index c.loop-row.below all c.if-system.false c.loop-row.invariant.hold)
