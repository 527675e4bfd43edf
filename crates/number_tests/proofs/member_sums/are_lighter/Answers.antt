use Rattle.std.proofs.Common.{◌≡◌, ◌≤ℤ◌, ℕ, ℤ, List, get_or, map, slice_get, Some, refl, subst, sym, ◌∙◌, arith, below_more}
use Rattle.std.proofs.lemmas.List.{length-map}
use Rattle.call_components.specs.Numbers.{number_of}
use Rattle.call_components.proofs.Lists.{contains_has, has_contains}
use Rattle.cti_terms.specs.declared.predicates.PredId.{PredId}
use Rattle.exact128.specs.Sums.{entry}
use Rattle.termination_model.proofs.Lists.{mapped_place, one_element, place_below, there}
use Rattle.number_tests.specs.Sums.{sum_at}
use Rattle.number_tests.proofs.ColumnLengths.{an_element}
use Rattle.number_tests.proofs.member_sums.are_lighter.Goals as goal

pub returns : goal.returns
returns c = (
  λ yes q has i.
      let (k, at) = contains_has (map number_of c.args.members.now) q has in
      let below = place_below (map number_of c.args.members.now) k q at in
      let (m, em) = an_element c.args.members.now k (omega (arith, below, length-map c.args.members.now number_of)) in
      let found = mapped_place number_of c.args.members.now k m em in
      let same : m.0 ≡ q = let both = sym found ∙ at in cc in
      subst (λ (x : ℕ). entry (sum_at c.args.heads.now x) i ≤ℤ entry (sum_at c.args.calls.now x) i) same (c.loop-member.invariant k (omega (arith, below, length-map c.args.members.now number_of)) m em i),
  λ all. refl,
)

pub returns-then-not-are_at_most : goal.returns-then-not-are_at_most
returns-then-not-are_at_most c =
    let members = c.args.members.now in
    let n = c.loop-member.member-index in
    let m : PredId = get_or members n (record { 0 = 0 }) in
    let at : slice_get members n ≡ Some m = there members n (record { 0 = 0 }) c.loop-member-test.true in (
      λ h. cc,
      λ all. sym c.if-not-are_at_most.true ∙ c.are_at_most.ensures.1 (λ i.
          subst (λ (xs : List ℤ). entry xs i ≤ℤ entry c.sums_of.result.now i) (sym c.sums_of-head.ensures)
          (subst (λ (ys : List ℤ). entry (sum_at c.args.heads.now m.0) i ≤ℤ entry ys i) (sym c.sums_of.ensures) (all m.0 (has_contains (map number_of members) m.0 (n, mapped_place number_of members n m at)) i))),
    )

pub loop-member-preserved : goal.loop-member-preserved
loop-member-preserved c =
    let members = c.args.members.now in
    let n = c.loop-member.member-index in
    let m : PredId = get_or members n (record { 0 = 0 }) in
    let at : slice_get members n ≡ Some m = there members n (record { 0 = 0 }) c.loop-member-test.true in
    below_more (λ (k : ℕ). (x : PredId) → slice_get members k ≡ Some x → (i : ℕ) → entry (sum_at c.args.heads.now x.0) i ≤ℤ entry (sum_at c.args.calls.now x.0) i) n c.loop-member.invariant
    (λ x ex i.
    let here : entry (sum_at c.args.heads.now m.0) i ≤ℤ entry (sum_at c.args.calls.now m.0) i =
    subst (λ (xs : List ℤ). entry xs i ≤ℤ entry (sum_at c.args.calls.now m.0) i) c.sums_of-head.ensures
    (subst (λ (ys : List ℤ). entry c.sums_of-head.result.now i ≤ℤ entry ys i) c.sums_of.ensures (c.are_at_most.ensures.0 c.if-not-are_at_most.false i)) in
    subst (λ (y : PredId). entry (sum_at c.args.heads.now y.0) i ≤ℤ entry (sum_at c.args.calls.now y.0) i) (one_element members n m x at ex) here)
