use Rattle.std.proofs.Common.{◌≡◌, ◌+◌, ◌<◌, length, slice_get, Some, refl, sym, ap, subst, ◌∙◌, arith, below_more}
use Rattle.std.specs.List.{AllByRecursion}
use Rattle.std.proofs.lemmas.Option.{slice_get_within}
use Rattle.cti_terms.specs.Arithmetic.{kind_of}
use Rattle.cti_terms.specs.declared.predicates.Pred.{Pred}
use Rattle.cert_structure.specs.Numbered.{lines_from}
use Rattle.cert_structure.specs.Order.{pred_text, size_line}
use Rattle.linear_rows.specs.Members.{In}
use Rattle.linear_rows.specs.Plain.{plain_rows}
use Rattle.linear_rows.specs.declared.row.Rows.{Rows}
use Rattle.number_tests.proofs.BeforeLaws.{before_first, before_more}
use Rattle.number_tests.proofs.ColumnLengths.{an_element}
use Rattle.number_tests.proofs.Sized.{some_below}
use Rattle.termination_model.proofs.Lists.{one_element}
use Rattle.termination_model.specs.sizes.Sizes.{plain_or_none}
use Rattle.termination_model.specs.sizes.Stated.{stated_rows}
use Rattle.cert_checker.proofs.FindLaws.{finds_item, finds_none, length_lines}
use Rattle.cert_checker.proofs.StatedLaws.{AreStatedAs, built_in, foreign_row, rows_hold}
use Rattle.cert_checker.specs.Finding.{Finds, IsForeign, SizesFail}
use Rattle.cert_checker.proofs.stated_faults.stated_fault.Goals as goal

pub loop-q-init : goal.loop-q-init
loop-q-init c = record {
  stated = λ q lt. absurd (omega (arith, lt));
  line = λ m. omega (arith, before_first (λ (r : Rows). length r.list) c.args.sizes.now);
  none = λ q lt. absurd (omega (arith, lt));
}

pub returns-in-Some-clause-hold : goal.returns-in-Some-clause-hold
returns-in-Some-clause-hold c = (
  λ none. cc,
  λ all.
      let n = c.loop-q.q in
      let own = c.foreign_fault.ensures.hold.1 (λ b is. subst (AllByRecursion (λ x. In x (stated_rows b))) (ap plain_or_none c.get-rows.ensures) (all n b (sym c.builtin.ensures ∙ is))) in
      let some = c.in-Some.is in
      cc,
)

pub returns-in-Some-clause-first : goal.returns-in-Some-clause-first
returns-in-Some-clause-first c = λ names named distinct.
    let p = c.args.p.now in
    let sizes = c.args.sizes.now in
    let n = c.loop-q.q in
    let rows = c.get-rows.result.now in
    let lt : n < length p.preds = omega (arith, c.loop-q-test.true, c.preds-q-end.ensures.count, c.loop-q.auto.q-end) in
    let (b, is) = built_in (λ b. AllByRecursion (λ r. In r (stated_rows b)) (plain_rows rows.list)) c.builtin.result c.foreign_fault.result c.in-Some.fault c.foreign_fault.ensures.hold c.in-Some.is in
    let found = subst (Finds (IsForeign b) c.loop-q.line (lines_from 0 (size_line (pred_text p names n)) rows.list)) c.in-Some.is (c.foreign_fault.ensures.first (pred_text p names n) b is) in
    finds_item (SizesFail p names) (λ q r. lines_from 0 (size_line (pred_text p names q)) r.list) (λ (r : Rows). length r.list) (λ q r. length_lines (size_line (pred_text p names q)) 0 r.list)
    c.args.first c.loop-q.line sizes n rows c.in-Some.fault c.get-rows.ensures c.loop-q.invariant.line (λ q less r at. c.loop-q.invariant.none q less r at names named distinct)
    (foreign_row p names c.preds-q-end.ensures.sound named distinct n lt rows.list c.loop-q.line (Some c.in-Some.fault) b (sym c.builtin.ensures ∙ is) found)

pub loop-q-preserved : goal.loop-q-preserved
loop-q-preserved c =
    let p = c.args.p.now in
    let sizes = c.args.sizes.now in
    let n = c.loop-q.q in
    let rows = c.get-rows.result.now in
    let there : slice_get sizes n ≡ Some rows = c.get-rows.ensures in
    let lt : n < length p.preds = omega (arith, c.loop-q-test.true, c.preds-q-end.ensures.count, c.loop-q.auto.q-end) in
    let stated : AreStatedAs (kind_of p.arithmetic n) rows.list = (λ b is. c.foreign_fault.ensures.hold.0 c.in_default.is b (c.builtin.ensures ∙ is)) in
    record {
      stated = below_more _ n c.loop-q.invariant.stated (λ r at. rw (one_element sizes n r rows at there) stated);
      line = λ m. omega (arith, c.loop-q.invariant.line (length rows.list + m), c.saturating_add-line.ensures, before_more (λ (r : Rows). length r.list) sizes n rows there);
      none = below_more _ n c.loop-q.invariant.none (λ r at names named distinct. rw (one_element sizes n r rows at there) (rows_hold p names c.preds-q-end.ensures.sound named distinct n lt rows.list stated));
    }

pub returns-clause-hold : goal.returns-clause-hold
returns-clause-hold c = (
  λ none q b is.
      let p = c.args.p.now in
      let sizes = c.args.sizes.now in
      let each = c.requires.sizes.each in
      let lt : q < length p.preds = some_below (λ (d : Pred). d.arity ≡ 2) p.preds q (c.preds-q-end.ensures.sound.binary q b is) in
      let (r, at) = an_element sizes q (omega (arith, each, lt)) in
      subst (AllByRecursion (λ x. In x (stated_rows b))) (sym (ap plain_or_none at))
      (c.loop-q.invariant.stated q (omega (arith, lt, c.loop-q-test.false, c.preds-q-end.ensures.count, c.loop-q.auto.q-end)) r at b is),
  λ all. refl,
)

pub returns-clause-first : goal.returns-clause-first
returns-clause-first c = λ names named distinct.
    let p = c.args.p.now in
    let sizes = c.args.sizes.now in
    let each = c.requires.sizes.each in
    finds_none (SizesFail p names) (λ q r. lines_from 0 (size_line (pred_text p names q)) r.list) (λ (r : Rows). length r.list) (λ q r. length_lines (size_line (pred_text p names q)) 0 r.list) sizes
    (λ q r at. c.loop-q.invariant.none q (omega (arith, slice_get_within sizes q r at, each, c.loop-q-test.false, c.preds-q-end.ensures.count, c.loop-q.auto.q-end)) r at names named distinct)
