use Rattle.std.proofs.Common.{◌≡◌, [], ◌∷◌, ap, sym, ◌∙◌}
use Rattle.cti_terms.specs.Unify.{first_step}
use Rattle.unifier.specs.Raised.{raised_tree}
use Rattle.unifier.specs.Store.{full}
use Rattle.unifier.specs.Pending.{step_of}
use Rattle.unifier.proofs.PendingLaws.{full_integer}
use Rattle.unifier.proofs.HeadSteps.{never_split, pair_nothing, pair_bound}
use Rattle.unifier.proofs.heads.unify_integer.Goals.{In_ok-step}
use Rattle.unifier.proofs.heads.unify_integer.Goals as goal

-- what the equation of the two terms asks for
asked : (c : In_ok-step) → let s = c.args.bindings.now in first_step (full s (raised_tree c.args.left)) (full s (raised_tree c.args.right)) ≡ step_of s c.met-l.result.term.base c.met-r.result.term.base c.in_ok-step.field-0
asked c = rw (c.met-l.ensures.same, c.met-r.ensures.same) at (sym c.in_ok-step.ensures.step)

pub returns-in-Nothing-clause-unifier : goal.returns-in-Nothing-clause-unifier
returns-in-Nothing-clause-unifier c =
    let h = rw c.in-Nothing.is at (asked (goal.at.returns-in-Nothing-clause-unifier c).In_ok-step) in
    (pair_nothing c.args.bindings.now c.args.left c.args.right h).unifier

pub returns-in_ok-bind-in-Binds-clause-unifier : goal.returns-in_ok-bind-in-Binds-clause-unifier
returns-in_ok-bind-in-Binds-clause-unifier c =
    let h = rw c.in-Binds.is at (asked (goal.at.returns-in_ok-bind-in-Binds-clause-unifier c).In_ok-step) in
    (pair_bound c.args.bindings.now c.bind.new.self c.args.left c.args.right c.in-Binds.x (raised_tree c.in-Binds.term) h c.in_ok-bind-in-Binds.ensures).unifier

pub returns-in_ok-bind-in-Binds-clause-extended : goal.returns-in_ok-bind-in-Binds-clause-extended
returns-in_ok-bind-in-Binds-clause-extended c = ((c.in-Binds.x, raised_tree c.in-Binds.term) ∷ [], c.in_ok-bind-in-Binds.ensures)

pub returns-in-Arguments-clause-unifier : goal.returns-in-Arguments-clause-unifier
returns-in-Arguments-clause-unifier c =
    let s = c.args.bindings.now in
    let n = c.requires.integer in
    let e = sym (ap (full s) n.1 ∙ full_integer s n.0) in
    let h = rw c.in-Arguments.is at (asked (goal.at.returns-in-Arguments-clause-unifier c).In_ok-step) in
    absurd (never_split (full s (raised_tree c.args.left)) n.0 _ (ap (first_step (full s (raised_tree c.args.left))) e ∙ h))
