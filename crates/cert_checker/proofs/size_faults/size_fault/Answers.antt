use Rattle.std.proofs.Common.{◌≡◌, refl, ◌+◌, ◌-◌, List, length, slice_get, Some, arith, below_more}
use Rattle.linear_rows.specs.declared.multipliers.Multipliers.{Multipliers}
use Rattle.termination_model.proofs.Lists.{one_element, place_below}
use Rattle.number_tests.specs.Shape.{list_at}
use Rattle.number_tests.proofs.CallFacts.{list_at_is}
use Rattle.number_tests.proofs.Sized.{sized_clause}
use Rattle.cert_structure.specs.Numbered.{lines_from}
use Rattle.cert_structure.specs.Order.{by_line}
use Rattle.number_tests.proofs.BeforeLaws.{before_first, before_more}
use Rattle.cert_checker.proofs.FindLaws.{finds_item, finds_none, length_lines, list_there}
use Rattle.cert_checker.specs.Finding.{ByFails}
use Rattle.cert_checker.proofs.size_faults.size_fault.Given.{Over}
use Rattle.cert_checker.proofs.size_faults.size_fault.Goals.{After-clause}
use Rattle.cert_checker.proofs.size_faults.size_fault.Goals as goal

-- a clause, and the multipliers of its size rows
module _ (g : Over) (c : After-clause g) where
  clause_at : slice_get c.args.p.now.clauses c.loop-k.k ≡ Some c.clause.result.now
  clause_at = let back : (c.loop-k.k + 1) - 1 ≡ c.loop-k.k = omega arith in rw back at c.clause.ensures.there

  proofs_are : c.as_slice-proofs.result.now ≡ list_at c.args.parts.now.row_proofs c.loop-k.k
  proofs_are =
      list_at_is c.as_slice.result.now c.args.parts.now.row_proofs c.loop-k.k c.index-as_slice-k.result c.as_slice-proofs.result.now c.as_slice.ensures (omega (arith, c.requires.proofs.each, c.clauses-k-end.ensures.count)) c.index-as_slice-k.is c.as_slice-proofs.ensures

  proofs_at : slice_get c.args.parts.now.row_proofs c.loop-k.k ≡ Some c.as_slice-proofs.result.now
  proofs_at = list_there c.args.parts.now.row_proofs c.loop-k.k c.as_slice-proofs.result.now (omega (arith, c.requires.proofs.each, c.clauses-k-end.ensures.count)) proofs_are

pub clause_size_fault-requires-clause-sized : goal.clause_size_fault-requires-clause-sized
clause_size_fault-requires-clause-sized g c = sized_clause c.args.p.now.preds c.args.parts.now.rows c.clause.result.now c.requires.sizes c.clause.ensures.sound

pub returns-in-Some-clause-hold : goal.returns-in-Some-clause-hold
returns-in-Some-clause-hold g c =
    let at = (goal.at.returns-in-Some-clause-hold g c).After-clause in
    let decided = rw (proofs_are g at) at c.in_ok-fault.ensures.hold in
    (λ h. cc, λ all. let none = decided.1 (all c.loop-k.k c.clause.result.now (clause_at g at)) in let some = c.in-Some.is in cc)

pub returns-in-Some-clause-first : goal.returns-in-Some-clause-first
returns-in-Some-clause-first g c =
    let at = (goal.at.returns-in-Some-clause-first g c).After-clause in
    let parts = c.args.parts.now in
    let found = c.in_ok-fault.ensures.first c.args.p.now c.loop-k.k (clause_at g at) in
    finds_item (ByFails (g.N.Norm.expression c.args.norm.now) c.args.p.now parts.rows) (λ k ms. lines_from 0 (by_line k) ms) (λ (ms : List Multipliers). length ms) (λ k ms. length_lines (by_line k) 0 ms) c.args.first c.loop-k.line parts.row_proofs c.loop-k.k
    c.as_slice-proofs.result.now c.in-Some.fault (proofs_at g at) c.loop-k.invariant.line c.loop-k.invariant.none (rw c.in-Some.is at found)

pub loop-k-init : goal.loop-k-init
loop-k-init g c = record {
  kept = λ k lt. absurd (omega (arith, lt));
  line = λ m. omega (arith, before_first (λ (ms : List Multipliers). length ms) c.args.parts.now.row_proofs);
  none = λ k lt. absurd (omega (arith, lt));
}

pub loop-k-preserved : goal.loop-k-preserved
loop-k-preserved g c =
    let at = (goal.at.loop-k-preserved g c).After-clause in
    let n = c.loop-k.k in
    let clauses = c.args.p.now.clauses in
    let proofs = c.args.parts.now.row_proofs in
    let kept = rw (proofs_are g at) at (c.in_ok-fault.ensures.hold.0 c.in_default.is) in
    let found = c.in_ok-fault.ensures.first c.args.p.now n (clause_at g at) in
    record {
      kept = below_more _ n c.loop-k.invariant.kept (λ x ex. rw (one_element clauses n x c.clause.result.now ex (clause_at g at)) kept);
      line = λ m. omega (arith, c.loop-k.invariant.line (length c.as_slice-proofs.result.now + m), c.saturating_add-line.ensures, before_more (λ (ms : List Multipliers). length ms) proofs n c.as_slice-proofs.result.now (proofs_at g at));
      none = below_more _ n c.loop-k.invariant.none (λ ms em. rw (one_element proofs n ms c.as_slice-proofs.result.now em (proofs_at g at)) (rw c.in_default.is at found));
    }

pub returns-clause-hold : goal.returns-clause-hold
returns-clause-hold g c = (λ none k x ex. c.loop-k.invariant.kept k (omega (arith, place_below c.args.p.now.clauses k x ex, c.clauses-k-end.ensures.count)) x ex, λ all. refl)

pub returns-clause-first : goal.returns-clause-first
returns-clause-first g c =
    let parts = c.args.parts.now in
    finds_none (ByFails (g.N.Norm.expression c.args.norm.now) c.args.p.now parts.rows) (λ k ms. lines_from 0 (by_line k) ms) (λ (ms : List Multipliers). length ms) (λ k ms. length_lines (by_line k) 0 ms) parts.row_proofs
    (λ k ms em. c.loop-k.invariant.none k (omega (arith, place_below parts.row_proofs k ms em, c.requires.proofs.each, c.clauses-k-end.ensures.count)) ms em)
