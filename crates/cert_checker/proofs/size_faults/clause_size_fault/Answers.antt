use Rattle.std.proofs.Common.{◌≡◌, refl, ◌↔◌, suc, ℤ, List, [], ◌∷◌, length, map, slice_get, Some, None, sym, ap, ◌∙◌, arith, below_more}
use Rattle.std.proofs.lemmas.List.{length-map}
use Rattle.std.proofs.Math.Seq.{take-length}
use Rattle.linear_rows.specs.Plain.{plain_row, plain_rows}
use Rattle.linear_rows.specs.declared.row.Row.{Row}
use Rattle.termination_model.specs.sizes.Replacing.{over_columns}
use Rattle.termination_model.specs.sizes.Systems.{row_over}
use Rattle.termination_model.specs.sizes.ShortSystems.{short_system}
use Rattle.cert_structure.specs.Order.{by_line}
use Rattle.cert_checker.proofs.FindLaws.{before_ones, finds_item, finds_none}
use Rattle.cert_checker.proofs.FlawLaws.{failing_row, kept_before, row_moved}
use Rattle.cert_checker.specs.Finding.{ByFails}
use Rattle.cert_checker.specs.declared.fault.Fault.{Fault}
use Rattle.number_tests.specs.Failing.{MultipliersFail}
use Rattle.termination_model.specs.sizes.Sizes.{plain_or_none, rows_of}
use Rattle.termination_model.proofs.Lists.{at_place, by_places, mapped_place, one_element, place_below}
use Rattle.linear_rows.specs.Showing.{AreMultipliers, IsShown}
use Rattle.number_tests.specs.Shape.{row_count}
use Rattle.number_tests.specs.Systems.{IsSystemUpTo}
use Rattle.number_tests.proofs.ColumnLengths.{column_lengths, element_of}
use Rattle.number_tests.proofs.RowSteps.{head_columns, system_count}
use Rattle.cert_checker.proofs.size_faults.clause_size_fault.Given.{Over}
use Rattle.cert_checker.proofs.size_faults.clause_size_fault.Goals.{After-index-proofs-i}
use Rattle.cert_checker.proofs.size_faults.clause_size_fault.Goals as goal

-- the system of the clause's body, a size row of its head, and the row's multipliers
module _ (g : Over) (c : After-index-proofs-i g) where
  system_is : IsSystemUpTo (g.N.Norm.expression c.args.norm.now) (rows_of c.args.sizes.now) c.args.clause.now (length c.args.clause.now.body) c.extend.new.system
  system_is = rw c.len.ensures at c.in_ok-extend.ensures

  row_at : slice_get (rows_of c.args.sizes.now c.args.clause.now.head.pred.0) c.loop-i.i ≡ Some (plain_row c.get-row.result.now)
  row_at = ap (λ (rs : List (List ℤ)). slice_get rs c.loop-i.i) (ap plain_or_none c.get-own.ensures) ∙ mapped_place plain_row c.get-own.result.now.list c.loop-i.i c.get-row.result.now c.get-row.ensures

  by_at : slice_get c.args.proofs.now c.loop-i.i ≡ Some c.index-proofs-i.result
  by_at = at_place c.args.proofs.now c.loop-i.i c.index-proofs-i.result (omega arith) c.index-proofs-i.is

  -- what is said of the row over the columns is said of it over the clause's variables
  moved : (T : List (List ℤ) → List ℤ → Type 0) → T (plain_rows c.extend.new.system.rows.list) (over_columns c.as_slice.result.now (plain_row c.get-row.result.now))
      → T (short_system (g.N.Norm.expression c.args.norm.now) (rows_of c.args.sizes.now) c.args.clause.now.vars c.args.clause.now.body) (row_over (g.N.Norm.expression c.args.norm.now) c.args.clause.now.vars c.args.clause.now.head.args (plain_row c.get-row.result.now))
  moved T told =
      row_moved (g.N.Norm.size c.args.norm.now) (g.N.Norm.truth c.args.norm.now) (g.N.Norm.expression c.args.norm.now) (g.met.N.Norm.laws c.args.norm.now) T c.args.sizes.now c.args.clause.now c.extend.new.system c.in_ok-head.head.items c.get-row.result.now
      system_is c.in_ok-head.ensures (rw c.as_slice.ensures.value at told)

pub row_flaw-requires-clause-long : goal.row_flaw-requires-clause-long
row_flaw-requires-clause-long g c =
    let norm = c.args.norm.now in
    let e = g.N.Norm.expression norm in
    let clause = c.args.clause.now in
    let row = c.get-row.result.now in
    let wide : length row.coeffs ≡ length clause.head.args =
    element_of (λ (r : Row). length r.coeffs ≡ length clause.head.args) c.get-own.result.now.list c.loop-i.i row (c.requires.sized.head.own c.get-own.result.now c.get-own.ensures) c.get-row.ensures in
    let columns = head_columns (g.N.Norm.size norm) (g.N.Norm.truth norm) e (g.met.N.Norm.laws norm) (rows_of c.args.sizes.now) clause (length clause.body) c.extend.new.system c.in_ok-head.head.items (system_is g c) c.in_ok-head.ensures in
    rw c.as_slice.ensures.value (column_lengths (map (e clause.vars) clause.head.args) clause.vars (suc (length row.coeffs)) c.in_ok-head.head.items columns (ap suc (length-map clause.head.args (e clause.vars) ∙ sym wide)))

pub row_flaw-requires-clause-count : goal.row_flaw-requires-clause-count
row_flaw-requires-clause-count g c =
    let is = system_is g c in
    let count = c.in_ok-head.ensures.count in
    omega (arith, ap length c.as_slice.ensures.value, count, is.width, is.head_width)

pub row_flaw-requires-clause-multipliers : goal.row_flaw-requires-clause-multipliers
row_flaw-requires-clause-multipliers g c =
    let clause = c.args.clause.now in
    let rows = rows_of c.args.sizes.now in
    let all : row_count rows clause.body ≡ length c.extend.new.system.rows.list =
    sym (system_count (g.N.Norm.expression c.args.norm.now) rows clause (length clause.body) c.extend.new.system (system_is g c) ∙ ap (row_count rows) (take-length clause.body)) in
    rw (← all) (by_places (AreMultipliers (row_count rows clause.body)) c.args.proofs.now c.requires.multipliers c.loop-i.i c.index-proofs-i.result (by_at g c))

pub returns-in-Some-clause-hold : goal.returns-in-Some-clause-hold
returns-in-Some-clause-hold g c =
    let at = (goal.at.returns-in-Some-clause-hold g c).After-index-proofs-i in
    let decided = moved g at (λ rs z. (c.in_ok-flaw.flaw ≡ None) ↔ IsShown rs z c.index-proofs-i.result) c.in_ok-flaw.ensures.shown in
    (λ h. cc, λ all. let none = decided.1 (all c.loop-i.i (plain_row c.get-row.result.now) c.index-proofs-i.result (row_at g at) (by_at g at)) in let some = c.in-Some.is in cc)

pub returns-in-Some-clause-first : goal.returns-in-Some-clause-first
returns-in-Some-clause-first g c =
    let at = (goal.at.returns-in-Some-clause-first g c).After-index-proofs-i in
    let e = g.N.Norm.expression c.args.norm.now in
    let n = c.loop-i.i in
    let by = c.index-proofs-i.result in
    let fails = rw c.in-Some.is at c.in_ok-flaw.ensures.fails in
    let failing = moved g at (λ rs z. MultipliersFail rs by.list z by.scale c.in-Some.flaw) fails in
    let fault : Fault = record { line = c.saturating_add.result; reason = c.of.result } in
    λ p k ek.
    finds_item (ByFails e p c.args.sizes.now) (λ i m. by_line k i m ∷ []) (λ m. 1) (λ i m. refl) c.args.line c.saturating_add.result c.args.proofs.now n by fault (by_at g at)
    (λ m. omega (arith, c.saturating_add.ensures, before_ones c.args.proofs.now n by (by_at g at)))
    (kept_before e p c.args.sizes.now k c.args.clause.now ek c.args.proofs.now n c.requires.each c.loop-i.invariant)
    (failing_row e p c.args.sizes.now k n c.args.clause.now ek (plain_row c.get-row.result.now) (row_at g at) by c.in-Some.flaw failing fault c.of.ensures (omega (arith, c.saturating_add.ensures)))

pub loop-i-preserved : goal.loop-i-preserved
loop-i-preserved g c =
    let at = (goal.at.loop-i-preserved g c).After-index-proofs-i in
    let n = c.loop-i.i in
    let by = c.index-proofs-i.result in
    let kept = moved g at (λ rs z. IsShown rs z by) (c.in_ok-flaw.ensures.shown.0 c.in_default.is) in
    below_more _ n c.loop-i.invariant
    (λ row other er eb. rw (one_element (rows_of c.args.sizes.now c.args.clause.now.head.pred.0) n row (plain_row c.get-row.result.now) er (row_at g at), one_element c.args.proofs.now n other by eb (by_at g at)) kept)

pub returns-clause-hold : goal.returns-clause-hold
returns-clause-hold g c = (λ none i row by er eb. c.loop-i.invariant i (omega (arith, place_below c.args.proofs.now i by eb)) row by er eb, λ all. refl)

pub returns-clause-first : goal.returns-clause-first
returns-clause-first g c = λ p k ek.
    let e = g.N.Norm.expression c.args.norm.now in
    finds_none (ByFails e p c.args.sizes.now) (λ i m. by_line k i m ∷ []) (λ m. 1) (λ i m. refl) c.args.proofs.now
    (λ i by eb. kept_before e p c.args.sizes.now k c.args.clause.now ek c.args.proofs.now c.loop-i.i c.requires.each c.loop-i.invariant i (omega (arith, place_below c.args.proofs.now i by eb)) by eb)
