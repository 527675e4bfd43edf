use Rattle.std.proofs.Common.{◌≡◌, ◌≢◌, ◌+◌, ℕ, List, Option, map, length, slice_get, None, Some, refl, sym, ap, ◌∙◌, arith, below_more}
use Rattle.std.specs.List.{AllPairs}
use Rattle.call_components.specs.Numbers.{number_of}
use Rattle.cert_structure.specs.Order.{pred_text, refutation_facts}
use Rattle.cert_structure.specs.Structure.{AreNamed}
use Rattle.number_tests.specs.Failing.{before, points_of}
use Rattle.number_tests.specs.declared.pair_point.PairPoint.{PairPoint}
use Rattle.number_tests.specs.declared.refutation.Refutation.{Refutation}
use Rattle.number_tests.proofs.BeforeLaws.{before_first, before_more}
use Rattle.termination_model.proofs.Lists.{at_place, one_element, place_below}
use Rattle.cert_checker.specs.Finding.{Finds, RefutationsFail}
use Rattle.cert_checker.proofs.FindLaws.{finds_item, finds_none}
use Rattle.cert_checker.proofs.RefutationLaws.{group_of, refutation_count, refutation_counted}
use Rattle.cert_checker.proofs.refutation_faults.refutation_fault.Given.{Over}
use Rattle.cert_checker.proofs.refutation_faults.refutation_fault.Goals.{After-index-as_slice-q, In_ok-fault}
use Rattle.cert_checker.proofs.refutation_faults.refutation_fault.Goals as goal

-- a predicate's refutation
refutation_at : (g : Over) (c : After-index-as_slice-q g) → slice_get c.args.parts.now.refutations c.loop-q.q ≡ Some c.index-as_slice-q.result
refutation_at g c =
    ap (λ (rs : List (Option Refutation)). slice_get rs c.loop-q.q) (sym c.as_slice.ensures)
    ∙ at_place c.as_slice.result.now c.loop-q.q c.index-as_slice-q.result (omega (arith, ap length c.as_slice.ensures, c.requires.refutations.each, c.preds-q-end.ensures.count)) c.index-as_slice-q.is

-- what is found of it is found of the certificate
whole : (g : Over) (c : In_ok-fault g) → slice_get c.args.parts.now.refutations c.loop-q.q ≡ Some (Some c.in-Some.refutation) → (names : List (List ℕ)) → AreNamed names c.args.p.now.preds → AllPairs (λ a b. a ≢ b) names
    → Finds (RefutationsFail (g.N.Norm.expression c.args.norm.now) c.args.p.now names c.args.comps.now c.args.parts.now) c.loop-q.line (refutation_facts (pred_text c.args.p.now names c.loop-q.q) (Some c.in-Some.refutation)) c.in_ok-fault.fault
whole g c there names named distinct =
    let p = c.args.p.now in
    let found = rw c.as_slice-points.ensures at (c.in_ok-fault.ensures.first (pred_text p names c.loop-q.q)) in
    group_of (g.N.Norm.expression c.args.norm.now) p names c.args.comps.now c.args.parts.now c.preds-q-end.ensures.sound named distinct c.loop-q.q (omega (arith, c.loop-q-test.true, c.preds-q-end.ensures.count, c.loop-q.auto.q-end))
    c.in-Some.refutation there c.of.result c.of.ensures (map number_of c.members-members.result.now) c.members-members.ensures c.loop-q.line c.in_ok-fault.fault found

pub loop-q-init : goal.loop-q-init
loop-q-init g c = record {
  hold = λ q lt. absurd (omega (arith, lt));
  line = λ m. omega (arith, before_first refutation_count c.args.parts.now.refutations);
  none = λ q lt. absurd (omega (arith, lt));
}

pub loop-q-preserved-in_default : goal.loop-q-preserved-in_default
loop-q-preserved-in_default g c =
    let n = c.loop-q.q in
    let refutations = c.args.parts.now.refutations in
    let there : slice_get refutations n ≡ Some None = refutation_at g (goal.at.loop-q-preserved-in_default g c).After-index-as_slice-q ∙ ap Some c.in_default.is in
    record {
      hold = below_more _ n c.loop-q.invariant.hold (λ k r members er ek em. let both = sym er ∙ there in cc);
      line = λ m. omega (arith, c.loop-q.invariant.line m, before_more refutation_count refutations n None there);
      none = below_more _ n c.loop-q.invariant.none (λ o eo names named distinct. rw (one_element refutations n o None eo there) tt);
    }

pub returns-in-Some-fault-clause-first : goal.returns-in-Some-fault-clause-first
returns-in-Some-fault-clause-first g c = λ names named distinct.
    let at = goal.at.returns-in-Some-fault-clause-first g c in
    let p = c.args.p.now in
    let there = refutation_at g at.After-index-as_slice-q ∙ ap Some c.in-Some.is in
    finds_item (RefutationsFail (g.N.Norm.expression c.args.norm.now) p names c.args.comps.now c.args.parts.now) (λ q o. refutation_facts (pred_text p names q) o) refutation_count (λ q o. refutation_counted (pred_text p names q) o) c.args.first c.loop-q.line c.args.parts.now.refutations c.loop-q.q
    (Some c.in-Some.refutation) c.in-Some-fault.fault there c.loop-q.invariant.line (λ q less o eo. c.loop-q.invariant.none q less o eo names named distinct) (rw c.in-Some-fault.is at (whole g at.In_ok-fault there names named distinct))

pub loop-q-preserved : goal.loop-q-preserved
loop-q-preserved g c =
    let at = goal.at.loop-q-preserved g c in
    let n = c.loop-q.q in
    let comps = c.args.comps.now in
    let refutations = c.args.parts.now.refutations in
    let refutation = c.in-Some.refutation in
    let there = refutation_at g at.After-index-as_slice-q ∙ ap Some c.in-Some.is in
    let shown = rw c.as_slice-points.ensures at (c.in_ok-fault.ensures.hold.0 c.in_default-fault.is) in
    let points = ap (λ (xs : List PairPoint). before points_of xs (length xs)) c.as_slice-points.ensures in
    record {
      hold = below_more _ n c.loop-q.invariant.hold
          (λ k r members er ek em.
          let same : r ≡ refutation = let both = sym er ∙ there in cc in
          let component : k ≡ c.of.result = let both = sym ek ∙ c.of.ensures in cc in
          let all : members ≡ map number_of c.members-members.result.now = let both = sym em ∙ ap (slice_get comps.members) component ∙ c.members-members.ensures in cc in
          rw (same, all) shown);
      line = λ m. omega (arith, c.loop-q.invariant.line (refutation_count (Some refutation) + m), c.line_after-line.ensures m, points, c.saturating_add.ensures, before_more refutation_count refutations n (Some refutation) there);
      none = below_more _ n c.loop-q.invariant.none
          (λ o eo names named distinct. rw (one_element refutations n o (Some refutation) eo there) (rw c.in_default-fault.is at (whole g at.In_ok-fault there names named distinct)));
    }

pub returns-clause-hold : goal.returns-clause-hold
returns-clause-hold g c = (
  λ none q k r members er ek em. c.loop-q.invariant.hold q (omega (arith, place_below c.args.parts.now.refutations q (Some r) er, c.requires.refutations.each, c.preds-q-end.ensures.count)) k r members er ek em,
  λ all. refl,
)

pub returns-clause-first : goal.returns-clause-first
returns-clause-first g c = λ names named distinct.
    let p = c.args.p.now in
    let refutations = c.args.parts.now.refutations in
    finds_none (RefutationsFail (g.N.Norm.expression c.args.norm.now) p names c.args.comps.now c.args.parts.now) (λ q o. refutation_facts (pred_text p names q) o) refutation_count (λ q o. refutation_counted (pred_text p names q) o) refutations
    (λ q o eo. c.loop-q.invariant.none q (omega (arith, place_below refutations q o eo, c.requires.refutations.each, c.preds-q-end.ensures.count)) o eo names named distinct)
