use Rattle.std.proofs.Common.{◌≡◌, ◌++◌, ◌∷◌, [], ℕ, Bool, List, ap, sym, ◌∙◌}
use Rattle.bool_diagrams.specs.Cubes.{truth_rows}
use Rattle.precond_fixpoint.proofs.ModeLaws.{filter_kept_at, filter_left_at}
use Rattle.termination_model.specs.claims.Descent.{mode_row}
use Rattle.termination_model.proofs.Lists.{at_place}
use Rattle.precond_fixpoint.proofs.modes.admitted_lists.Goals.{then-admits+in_ok-copy+in_ok-push, else-admits}
use Rattle.precond_fixpoint.proofs.modes.admitted_lists.Goals as goal

pub loop-args-preserved : goal.loop-args-preserved
loop-args-preserved c =
    let lists = c.args.lists.now in
    let n = c.loop-args.args-index in
    let args = c.args-item.result in
    let at = at_place lists n args c.loop-args-test.true c.args-item.is in
    let f : List ℕ → Bool = λ args. truth_rows c.args.table.now c.args.set (mode_row args 1 c.args.arity) in
    let is : f args ≡ c.admits.result = ap f (sym c.as_slice.ensures) ∙ sym c.admits.ensures in
    elim c.if-admits.branch [
      | then-admits+in_ok-copy+in_ok-push w ↦
          (λ k. (w.admitted-is k).items) ∙ w.in_ok-push.ensures.items ∙ (λ k. c.loop-args.invariant k ++ w.in_ok-copy.ensures k ∷ [])
          ∙ sym (filter_kept_at f lists n args at (is ∙ w.if-admits.true))
      | else-admits w ↦ (λ k. (w.admitted-is k).items) ∙ c.loop-args.invariant ∙ sym (filter_left_at f lists n args at (is ∙ w.if-admits.false))
    ]
