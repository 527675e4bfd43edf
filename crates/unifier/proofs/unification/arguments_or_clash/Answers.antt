use Rattle.std.proofs.Common.{Bool, subst}
use Rattle.cti_terms.specs.Tree.{Compound}
use Rattle.cti_terms.specs.Unify.{first_step, pairs}
use Rattle.unifier.specs.Pending.{args_full, AgreeAs}
use Rattle.unifier.proofs.unification.arguments_or_clash.Goals as goal

pub returns-then-agree-clause-step : goal.returns-then-agree-clause-step
returns-then-agree-clause-step c = λ s n m.
    let ts = args_full s n c.args.left.now in
    let us = args_full s m c.args.right.now in
    subst (λ (b : Bool). AgreeAs b (first_step (Compound c.args.f.0 ts) (Compound c.args.g.0 us)) (pairs ts us)) c.if-agree.true (c.agree.ensures s n m)

pub returns-else-agree-clause-step : goal.returns-else-agree-clause-step
returns-else-agree-clause-step c = λ s n m.
    let ts = args_full s n c.args.left.now in
    let us = args_full s m c.args.right.now in
    subst (λ (b : Bool). AgreeAs b (first_step (Compound c.args.f.0 ts) (Compound c.args.g.0 us)) (pairs ts us)) c.if-agree.false (c.agree.ensures s n m)
