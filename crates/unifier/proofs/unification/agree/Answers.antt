use Rattle.unifier.proofs.PendingLaws.{step_splits, step_clashes}
use Rattle.unifier.proofs.unification.agree.Goals as goal
use Rattle.unifier.proofs.unification.agree.Goals.{else-f-g-via-then-f-g+else-left-right, else-f-g-via-else-f-g}

pub returns-then-left-right : goal.returns-then-left-right
returns-then-left-right c = λ s n m. step_splits s c.args.f.0 c.args.g.0 n m c.args.left.now c.args.right.now c.if-f-g.true c.if-left-right.true

pub returns-else-f-g : goal.returns-else-f-g
returns-else-f-g c = λ s n m. step_clashes s c.args.f.0 c.args.g.0 n m c.args.left.now c.args.right.now (λ h.
    elim c.else-f-g.branch [
      | else-f-g-via-then-f-g+else-left-right w ↦ w.if-left-right.false h.1
      | else-f-g-via-else-f-g w ↦ w.if-f-g.false h.0
    ])
