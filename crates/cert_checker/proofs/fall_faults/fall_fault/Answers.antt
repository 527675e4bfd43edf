use Rattle.std.proofs.Common.{◌≡◌, ◌↔◌, ◌+◌, ◌-◌, [], refl, slice_get, Some, None, ap, arith, below_more}
use Rattle.cti_terms.specs.declared.clauses.Clause.{Clause}
use Rattle.cert_structure.specs.Numbered.{facts_from, lines_from}
use Rattle.cert_structure.specs.Order.{falls_line}
use Rattle.termination_model.proofs.Lists.{one_element, place_below, there}
use Rattle.cert_checker.specs.Finding.{FallsFail, Finds}
use Rattle.cert_checker.specs.Proved.{CallsFall}
use Rattle.cert_checker.proofs.FallLaws.{falls_counted, falls_in}
use Rattle.cert_checker.proofs.FindLaws.{finds_item, finds_none}
use Rattle.number_tests.specs.Shape.{list_at}
use Rattle.number_tests.proofs.BeforeLaws.{before_first, before_more}
use Rattle.number_tests.proofs.CallFacts.{list_at_is}
use Rattle.number_tests.proofs.ColumnLengths.{an_element}
use Rattle.cert_checker.proofs.fall_faults.fall_fault.Given.{Over}
use Rattle.cert_checker.proofs.fall_faults.fall_fault.Goals.{In_ok-fault}
use Rattle.cert_checker.proofs.fall_faults.fall_fault.Goals as goal

-- a clause's falls, counted from 0
module _ (g : Over) (c : In_ok-fault g) where
  back : (c.loop-k.k + 1) - 1 ≡ c.loop-k.k
  back = omega arith

  decided : (x : Clause) → slice_get c.args.p.now.clauses c.loop-k.k ≡ Some x → (c.in_ok-fault.fault ≡ None) ↔ CallsFall (g.N.Norm.expression c.args.norm.now) c.args.comps.now c.args.parts.now x (list_at c.args.parts.now.falls c.loop-k.k)
  decided = rw back at c.in_ok-fault.ensures.hold

  found : Finds (FallsFail (g.N.Norm.expression c.args.norm.now) c.args.p.now c.args.comps.now c.args.parts.now) c.loop-k.line (facts_from 0 (λ j ms. lines_from 0 (falls_line c.loop-k.k j) ms) (list_at c.args.parts.now.falls c.loop-k.k)) c.in_ok-fault.fault
  found = rw back at c.in_ok-fault.ensures.first

  falls_at : slice_get c.args.parts.now.falls c.loop-k.k ≡ Some (list_at c.args.parts.now.falls c.loop-k.k)
  falls_at = there c.args.parts.now.falls c.loop-k.k [] (omega (arith, c.requires.falls.each, c.clauses-k-end.ensures.count))

pub loop-k-init : goal.loop-k-init
loop-k-init g c = record {
  fall = λ k lt. absurd (omega (arith, lt));
  line = λ m. omega (arith, before_first falls_in c.args.parts.now.falls);
  none = λ k lt. absurd (omega (arith, lt));
}

pub returns-in-Some-clause-hold : goal.returns-in-Some-clause-hold
returns-in-Some-clause-hold g c =
    let (x, ex) = an_element c.args.p.now.clauses c.loop-k.k (omega (arith, c.clauses-k-end.ensures.count)) in
    let decided = decided g (goal.at.returns-in-Some-clause-hold g c).In_ok-fault x ex in
    (λ h. cc, λ all. let none = decided.1 (all c.loop-k.k x ex) in let some = c.in-Some.is in cc)

pub returns-in-Some-clause-first : goal.returns-in-Some-clause-first
returns-in-Some-clause-first g c =
    let at = (goal.at.returns-in-Some-clause-first g c).In_ok-fault in
    let parts = c.args.parts.now in
    finds_item (FallsFail (g.N.Norm.expression c.args.norm.now) c.args.p.now c.args.comps.now parts) (λ k mss. facts_from 0 (λ j ms. lines_from 0 (falls_line k j) ms) mss) falls_in falls_counted c.args.first c.loop-k.line parts.falls c.loop-k.k
    (list_at parts.falls c.loop-k.k) c.in-Some.fault (falls_at g at) c.loop-k.invariant.line c.loop-k.invariant.none (rw c.in-Some.is at (found g at))

pub loop-k-preserved : goal.loop-k-preserved
loop-k-preserved g c =
    let at = (goal.at.loop-k-preserved g c).In_ok-fault in
    let n = c.loop-k.k in
    let falls = c.args.parts.now.falls in
    let count = ap falls_in (list_at_is c.as_slice.result.now falls n c.index-as_slice-k.result c.as_slice-in-loop-k.result.now c.as_slice.ensures (omega (arith, c.requires.falls.each, c.clauses-k-end.ensures.count)) c.index-as_slice-k.is c.as_slice-in-loop-k.ensures) in
    record {
      fall = below_more _ n c.loop-k.invariant.fall (λ x ex. (decided g at x ex).0 c.in_default.is);
      line = λ m. omega (arith, c.line_after-line.ensures m, c.loop-k.invariant.line (falls_in (list_at falls n) + m), count, before_more falls_in falls n (list_at falls n) (falls_at g at));
      none = below_more _ n c.loop-k.invariant.none (λ mss em. rw (one_element falls n mss (list_at falls n) em (falls_at g at)) (rw c.in_default.is at (found g at)));
    }

pub returns-clause-hold : goal.returns-clause-hold
returns-clause-hold g c = (λ none k x ex. c.loop-k.invariant.fall k (omega (arith, place_below c.args.p.now.clauses k x ex, c.clauses-k-end.ensures.count)) x ex, λ all. refl)

pub returns-clause-first : goal.returns-clause-first
returns-clause-first g c =
    let parts = c.args.parts.now in
    finds_none (FallsFail (g.N.Norm.expression c.args.norm.now) c.args.p.now c.args.comps.now parts) (λ k mss. facts_from 0 (λ j ms. lines_from 0 (falls_line k j) ms) mss) falls_in falls_counted parts.falls
    (λ k mss em. c.loop-k.invariant.none k (omega (arith, place_below parts.falls k mss em, c.requires.falls.each, c.clauses-k-end.ensures.count)) mss em)
