use Rattle.std.proofs.Common.{◌≡◌, ◌≤ℤ◌, ℤ, true, false, List, sym, subst, ◌∙◌}
use Rattle.exact128.specs.Sums.{entry}
use Rattle.termination_model.specs.mappings.Refutation.{gather}
use Rattle.number_tests.specs.Failing.{fails_sums, wide_sums}
use Rattle.number_tests.specs.Refuting.{head_loads}
use Rattle.number_tests.specs.Sums.{sum_at}
use Rattle.number_tests.proofs.pair_sums.sums_flaw.Goals as goal
use Rattle.number_tests.proofs.pair_sums.sums_flaw.Goals.{then-not-has_positive-via-then-not-has_positive, then-not-has_positive-via-else-not-has_positive+then-not-are_lighter}

pub returns-then-not-branch-clause-fails : goal.returns-then-not-branch-clause-fails
returns-then-not-branch-clause-fails g c = wide_sums (λ fit. let no : false ≡ true = sym c.if-not-branch.true ∙ c.in_ok-sum_pairs.ensures.fit.1 fit in cc)

pub returns-then-not-has_positive-clause-fails : goal.returns-then-not-has_positive-clause-fails
returns-then-not-has_positive-clause-fails g c =
    let e = g.N.Norm.expression c.args.norm.now in
    let p = c.args.p.now in
    let points = c.args.points.now in
    let fit = c.if-not-branch.false in
    let sums = c.in_ok-sum_pairs.ensures in
    fails_sums (sums.fit.0 fit) (λ refute. elim c.then-not-has_positive.branch [
      | then-not-has_positive-via-then-not-has_positive w ↦ (let no : false ≡ true = sym w.if-not-has_positive.true ∙ c.has_positive.ensures.1 refute.positive in cc)
      | then-not-has_positive-via-else-not-has_positive+then-not-are_lighter w ↦ (let no : false ≡ true = sym w.if-not-are_lighter.true ∙ w.are_lighter.ensures.1 (λ q has i.
          subst (λ (xs : List ℤ). entry xs i ≤ℤ entry (sum_at c.sum_pairs.new.calls q) i) (sym (sums.heads fit q))
          (subst (λ (ys : List ℤ). entry (gather q (head_loads e p points)) i ≤ℤ entry ys i) (sym (sums.calls fit q)) (refute.columns q has i))) in cc)
    ])
