use Rattle.std.proofs.Common.{◌≡◌, ◌+◌, ◌<◌, List, length, slice_get, Some, false, sym, ap, ◌∙◌, arith, below_more}
use Rattle.std.specs.List.{AllByRecursion}
use Rattle.cert_structure.specs.Numbered.{lines_from}
use Rattle.cert_structure.specs.Order.{measure_line, pred_text}
use Rattle.number_tests.proofs.BeforeLaws.{before_first, before_more}
use Rattle.number_tests.proofs.CallFacts.{list_at_is}
use Rattle.number_tests.specs.Shape.{list_at}
use Rattle.number_tests.specs.declared.level_part.LevelPart.{LevelPart}
use Rattle.termination_model.proofs.Lists.{one_element, place_below}
use Rattle.cert_checker.proofs.FindLaws.{finds_item, finds_none, length_lines, list_there}
use Rattle.cert_checker.proofs.MeasureLaws.{failing_part, not_recursive, zero_parts}
use Rattle.cert_checker.specs.Finding.{MeasuresFail}
use Rattle.cert_checker.specs.Proved.{IsZero}
use Rattle.cert_checker.proofs.measure_faults.measure_fault.Goals.{After-as_slice-own}
use Rattle.cert_checker.proofs.measure_faults.measure_fault.Goals as goal

-- a predicate, and its parts of mappings
module _ (c : After-as_slice-own) where
  pred_below : c.loop-q.q < length c.args.p.now.preds
  pred_below = omega (arith, c.loop-q-test.true, c.preds-q-end.ensures.count, c.loop-q.auto.q-end)

  own_is : c.as_slice-own.result.now ≡ list_at c.args.parts.now.levels c.loop-q.q
  own_is = list_at_is c.as_slice.result.now c.args.parts.now.levels c.loop-q.q c.index-as_slice-q.result c.as_slice-own.result.now c.as_slice.ensures (omega (arith, pred_below, c.requires.levels.each)) c.index-as_slice-q.is c.as_slice-own.ensures

  own_at : slice_get c.args.parts.now.levels c.loop-q.q ≡ Some c.as_slice-own.result.now
  own_at = list_there c.args.parts.now.levels c.loop-q.q c.as_slice-own.result.now (omega (arith, pred_below, c.requires.levels.each)) own_is

pub loop-q-init : goal.loop-q-init
loop-q-init c = record {
  zero = λ q lt. absurd (omega (arith, lt));
  line = λ m. omega (arith, before_first (λ (ls : List LevelPart). length ls) c.args.parts.now.levels);
  none = λ q lt. absurd (omega (arith, lt));
}

pub returns-in-Some-clause-first : goal.returns-in-Some-clause-first
returns-in-Some-clause-first c = λ names named distinct.
    let at = (goal.at.returns-in-Some-clause-first c).After-as_slice-own in
    let p = c.args.p.now in
    let comps = c.args.comps.now in
    let n = c.loop-q.q in
    let ls = c.as_slice-own.result.now in
    let flat : c.recursive-recursive.result ≡ false = not_recursive (AllByRecursion IsZero ls) c.recursive-recursive.result c.part_fault.result c.in-Some.fault c.part_fault.ensures.hold c.in-Some.is in
    let found = rw c.in-Some.is at (c.part_fault.ensures.first (pred_text p names n) flat) in
    finds_item (MeasuresFail p names comps) (λ q xs. lines_from 0 (measure_line (pred_text p names q)) xs) (λ (xs : List LevelPart). length xs) (λ q xs. length_lines (measure_line (pred_text p names q)) 0 xs)
    c.args.first c.loop-q.line c.args.parts.now.levels n ls c.in-Some.fault (own_at at) c.loop-q.invariant.line (λ q less xs at. c.loop-q.invariant.none q less xs at names named distinct)
    (failing_part p names comps c.preds-q-end.ensures.sound named distinct n (pred_below at) c.of.result c.of.ensures c.recursive-recursive.result c.recursive-recursive.ensures ls c.loop-q.line (Some c.in-Some.fault) flat found)

pub loop-q-preserved : goal.loop-q-preserved
loop-q-preserved c =
    let at = (goal.at.loop-q-preserved c).After-as_slice-own in
    let p = c.args.p.now in
    let comps = c.args.comps.now in
    let levels = c.args.parts.now.levels in
    let n = c.loop-q.q in
    let ls = c.as_slice-own.result.now in
    let zero : c.recursive-recursive.result ≡ false → AllByRecursion IsZero ls = c.part_fault.ensures.hold.0 c.in_default.is in
    record {
      zero = below_more _ n c.loop-q.invariant.zero
          (λ d is flat.
          let same : d ≡ c.of.result = let both = sym c.of.ensures ∙ is in cc in
          let none : c.recursive-recursive.result ≡ false = let both = sym c.recursive-recursive.ensures ∙ ap (slice_get comps.recursive) (sym same) ∙ flat in cc in
          rw (← own_is at) (zero none));
      line = λ m. omega (arith, c.loop-q.invariant.line (length ls + m), c.saturating_add-line.ensures, before_more (λ (xs : List LevelPart). length xs) levels n ls (own_at at));
      none = below_more _ n c.loop-q.invariant.none
          (λ xs ex names named distinct. rw (one_element levels n xs ls ex (own_at at))
          (zero_parts p names comps c.preds-q-end.ensures.sound named distinct n (pred_below at) c.of.result c.of.ensures c.recursive-recursive.result c.recursive-recursive.ensures ls zero));
    }

pub returns-clause-first : goal.returns-clause-first
returns-clause-first c = λ names named distinct.
    let p = c.args.p.now in
    let levels = c.args.parts.now.levels in
    finds_none (MeasuresFail p names c.args.comps.now) (λ q xs. lines_from 0 (measure_line (pred_text p names q)) xs) (λ (xs : List LevelPart). length xs) (λ q xs. length_lines (measure_line (pred_text p names q)) 0 xs) levels
    (λ q xs at. c.loop-q.invariant.none q (omega (arith, place_below levels q xs at, c.requires.levels.each, c.loop-q-test.false, c.preds-q-end.ensures.count, c.loop-q.auto.q-end)) xs at names named distinct)
