use Rattle.std.proofs.Common.{◌≡◌, ◌↔◌, ◌+◌, ◌-◌, ℕ, IsTrue, slice_get, Some, refl, sym, subst, ◌∙◌, arith, below_more}
use Rattle.cti_terms.specs.declared.clauses.Clause.{Clause}
use Rattle.number_tests.proofs.ColumnLengths.{an_element}
use Rattle.number_tests.specs.Shape.{list_at}
use Rattle.termination_model.proofs.Lists.{place_below}
use Rattle.lex_checker.specs.Proved.{CallsDrop}
use Rattle.lex_checker.proofs.dropping.drops_hold.Goals as goal

pub returns-then-not-branch : goal.returns-then-not-branch
returns-then-not-branch g c =
    let e = g.N.Norm.expression c.args.norm.now in
    let parts = c.args.parts.now in
    let clauses = c.args.p.now.clauses in
    let n = c.loop-k.k in
    let back : (n + 1) - 1 ≡ n = omega arith in
    let decides : (x : Clause) → slice_get clauses n ≡ Some x → IsTrue c.in_ok-clause_drops.field-0 ↔ CallsDrop e c.args.comps.now parts x (list_at parts.drops n) =
    subst (λ (k : ℕ). (x : Clause) → slice_get clauses k ≡ Some x → IsTrue c.in_ok-clause_drops.field-0 ↔ CallsDrop e c.args.comps.now parts x (list_at parts.drops k)) back c.in_ok-clause_drops.ensures in
    let (x, ex) = an_element clauses n (omega (arith, c.clauses-k-end.ensures.count)) in
    (λ no. cc, λ all. sym c.if-not-branch.true ∙ (decides x ex).1 (all n x ex))

pub loop-k-preserved : goal.loop-k-preserved
loop-k-preserved g c =
    let e = g.N.Norm.expression c.args.norm.now in
    let parts = c.args.parts.now in
    let clauses = c.args.p.now.clauses in
    let n = c.loop-k.k in
    let back : (n + 1) - 1 ≡ n = omega arith in
    let decides : (x : Clause) → slice_get clauses n ≡ Some x → IsTrue c.in_ok-clause_drops.field-0 ↔ CallsDrop e c.args.comps.now parts x (list_at parts.drops n) =
    subst (λ (k : ℕ). (x : Clause) → slice_get clauses k ≡ Some x → IsTrue c.in_ok-clause_drops.field-0 ↔ CallsDrop e c.args.comps.now parts x (list_at parts.drops k)) back c.in_ok-clause_drops.ensures in
    below_more (λ (k : ℕ). (x : Clause) → slice_get clauses k ≡ Some x → CallsDrop e c.args.comps.now parts x (list_at parts.drops k)) n c.loop-k.invariant (λ x ex. (decides x ex).0 c.if-not-branch.false)

pub returns : goal.returns
returns g c = (
  λ yes k x ex. c.loop-k.invariant k (omega (arith, place_below c.args.p.now.clauses k x ex, c.clauses-k-end.ensures.count, c.loop-k-test.false, c.loop-k.auto.k-end)) x ex,
  λ all. refl,
)
