use Rattle.std.proofs.Common.{◌≡◌, ◌⊎◌, inl, inr, ◌-◌, ℕ, suc, ℤ, Bool, true, false, List, length, slice_get, Some, refl, sym, subst, arith, below_more}
use Rattle.std.specs.List.{AllByRecursion}
use Rattle.std.proofs.lemmas.List.{length-map}
use Rattle.number_tests.specs.declared.pair_point.PairPoint.{PairPoint}
use Rattle.linear_rows.specs.Plain.{HaveWidth, plain_rows}
use Rattle.termination_model.specs.mappings.Refutation.{Load}
use Rattle.termination_model.specs.sizes.Sizes.{rows_of}
use Rattle.termination_model.proofs.Lists.{at_place, by_places, from_places, mapped_place, one_element, place_below}
use Rattle.termination_model.proofs.SystemLaws.{widths}
use Rattle.number_tests.specs.PairSums.{AddsBoth, AddsLoad}
use Rattle.number_tests.specs.Refuting.{PairFits, call_loads, call_of, clause_of, head_loads, load_at, sizes_at}
use Rattle.number_tests.specs.Shape.{IsPairOf}
use Rattle.number_tests.specs.Systems.{IsSystemUpTo}
use Rattle.number_tests.proofs.SumSteps.{all_fit, does_not_fit, fits_more, have_width, sums_more}
use Rattle.number_tests.proofs.pair_sums.sum_pairs.Goals as goal

pub add_pair-requires-clause-width : goal.add_pair-requires-clause-width
add_pair-requires-clause-width g c =
    let e = g.N.Norm.expression c.args.norm.now in
    let p = c.args.p.now in
    let points = c.args.points.now in
    let n = c.loop-x.x-index in
    let x = c.x-item.result in
    let at : slice_get points n ≡ Some x = at_place points n x c.loop-x-test.true c.x-item.is in
    let pair : IsPairOf p x = by_places (IsPairOf p) points c.requires.pairs n x at in
    let number : c.in_ok-reached.reached.clause ≡ x.clause = c.in_ok-reached.ensures.clause in
    let is : IsSystemUpTo e (rows_of c.args.sizes.now) pair.clause c.in_ok-reached.reached.atoms c.in_ok-reached.reached.system =
    c.in_ok-reached.ensures.reached pair.clause (let first = pair.first in omega (arith, number, first)) (subst (λ (k : ℕ). slice_get p.clauses (k - 1) ≡ Some pair.clause) (sym number) pair.there) in
    let long : AllByRecursion (λ (row : List ℤ). length row ≡ suc pair.clause.vars) (plain_rows c.in_ok-reached.reached.system.head.list) =
    subst (AllByRecursion (λ (row : List ℤ). length row ≡ suc pair.clause.vars)) (sym is.head) (widths (g.N.Norm.size c.args.norm.now) (g.N.Norm.truth c.args.norm.now) e (g.met.N.Norm.laws c.args.norm.now) pair.clause.vars pair.clause.head.args) in
    subst (λ (k : ℕ). HaveWidth k c.in_ok-reached.reached.system.head.list) (sym pair.point) (have_width pair.clause.vars c.in_ok-reached.reached.system.head.list long)

pub returns-then-not-branch-clause-fit : goal.returns-then-not-branch-clause-fit
returns-then-not-branch-clause-fit g c =
    let e = g.N.Norm.expression c.args.norm.now in
    let p = c.args.p.now in
    let points = c.args.points.now in
    let n = c.loop-x.x-index in
    let x = c.x-item.result in
    let at : slice_get points n ≡ Some x = at_place points n x c.loop-x-test.true c.x-item.is in
    let head : Load = load_at e (clause_of p x).head x.point in
    let call : Load = load_at e (call_of p x) x.point in
    let at_head : slice_get (head_loads e p points) n ≡ Some head = mapped_place (λ (y : PairPoint). load_at e (clause_of p y).head y.point) points n x at in
    let at_call : slice_get (call_loads e p points) n ≡ Some call = mapped_place (λ (y : PairPoint). load_at e (call_of p y) y.point) points n x at in
    let inv = c.loop-x.invariant in
    let heads : Bool → Type 0 = AddsLoad c.loop-x.heads c.add_pair.new.heads (clause_of p x).head.pred.0 (sizes_at e (clause_of p x).head x.point) x.point in
    let calls : Bool → Type 0 = AddsLoad c.loop-x.calls c.add_pair.new.calls (call_of p x).pred.0 (sizes_at e (call_of p x) x.point) x.point in
    let wide : heads false ⊎ calls false = subst (AddsBoth heads calls) c.if-not-branch.true c.in_ok-add_pair.ensures in (
      λ h. cc,
      λ fit.
          let values = by_places (PairFits e p) points fit.values n x at in
          absurd (elim wide [
            | inl a ↦ does_not_fit (head_loads e p points) n head at_head c.loop-x.heads c.add_pair.new.heads inv.heads fit.heads (a values.0)
            | inr b ↦ does_not_fit (call_loads e p points) n call at_call c.loop-x.calls c.add_pair.new.calls inv.calls fit.calls (b values.1)
          ]),
    )

pub loop-x-preserved : goal.loop-x-preserved
loop-x-preserved g c =
    let e = g.N.Norm.expression c.args.norm.now in
    let p = c.args.p.now in
    let points = c.args.points.now in
    let n = c.loop-x.x-index in
    let x = c.x-item.result in
    let at : slice_get points n ≡ Some x = at_place points n x c.loop-x-test.true c.x-item.is in
    let head : Load = load_at e (clause_of p x).head x.point in
    let call : Load = load_at e (call_of p x) x.point in
    let at_head : slice_get (head_loads e p points) n ≡ Some head = mapped_place (λ (y : PairPoint). load_at e (clause_of p y).head y.point) points n x at in
    let at_call : slice_get (call_loads e p points) n ≡ Some call = mapped_place (λ (y : PairPoint). load_at e (call_of p y) y.point) points n x at in
    let inv = c.loop-x.invariant in
    let heads : Bool → Type 0 = AddsLoad c.loop-x.heads c.add_pair.new.heads (clause_of p x).head.pred.0 (sizes_at e (clause_of p x).head x.point) x.point in
    let calls : Bool → Type 0 = AddsLoad c.loop-x.calls c.add_pair.new.calls (call_of p x).pred.0 (sizes_at e (call_of p x) x.point) x.point in
    let both : heads true × calls true = subst (AddsBoth heads calls) c.if-not-branch.false c.in_ok-add_pair.ensures in
    record {
      reached = c.in_ok-reached.ensures.reached;
      heads = sums_more (head_loads e p points) n head at_head c.loop-x.heads c.add_pair.new.heads inv.heads both.0.1;
      calls = sums_more (call_loads e p points) n call at_call c.loop-x.calls c.add_pair.new.calls inv.calls both.1.1;
      values = below_more (λ (i : ℕ). (y : PairPoint) → slice_get points i ≡ Some y → PairFits e p y) n inv.values (λ y ey. subst (PairFits e p) (one_element points n x y at ey) (both.0.0, both.1.0));
      head_sums = fits_more (head_loads e p points) n head at_head c.loop-x.heads c.add_pair.new.heads inv.heads both.0.1 inv.head_sums;
      call_sums = fits_more (call_loads e p points) n call at_call c.loop-x.calls c.add_pair.new.calls inv.calls both.1.1 inv.call_sums;
    }

pub returns-clause-fit : goal.returns-clause-fit
returns-clause-fit g c =
    let e = g.N.Norm.expression c.args.norm.now in
    let p = c.args.p.now in
    let points = c.args.points.now in
    let n = c.loop-x.x-index in
    let inv = c.loop-x.invariant in (
      λ h. record {
        values = from_places (PairFits e p) points (λ i x ex. inv.values i (omega (arith, place_below points i x ex)) x ex);
        heads = all_fit (head_loads e p points) n (omega (arith, length-map points (λ (y : PairPoint). load_at e (clause_of p y).head y.point))) inv.head_sums;
        calls = all_fit (call_loads e p points) n (omega (arith, length-map points (λ (y : PairPoint). load_at e (call_of p y) y.point))) inv.call_sums;
      },
      λ h. refl,
    )
