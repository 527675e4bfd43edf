use Rattle.std.proofs.Common.{◌+◌, ◌++◌, ℕ, List, ap, sym, ◌∙◌}
use Rattle.report.specs.Generated.{predicate}
use Rattle.report.proofs.GeneratedLaws.{one_more}
use Rattle.report.proofs.generating.gen_source.Goals as goal

pub loop-k-preserved : goal.loop-k-preserved
loop-k-preserved c =
    let k = c.loop-k.k in
    c.in_ok-push_predicate.ensures ∙ ap (λ (xs : List ℕ). xs ++ predicate (k + 1)) c.loop-k.invariant ∙ sym (one_more k)
