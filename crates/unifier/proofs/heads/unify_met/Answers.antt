use Rattle.std.proofs.Common.{◌≡◌, List, [], ◌++◌, ap, sym, ◌∙◌, subst, arith}
use Rattle.cti_terms.specs.Unify.{first_step, pairs}
use Rattle.unifier.specs.declared.raised_term.RaisedTerm.{RaisedTerm}
use Rattle.unifier.specs.Raised.{raised_tree}
use Rattle.unifier.specs.Store.{full}
use Rattle.unifier.specs.Below.{LeftBelow}
use Rattle.unifier.specs.Pending.{waiting, args_full, step_of, StaysBelow}
use Rattle.unifier.proofs.BelowLaws.{left_append, left_split}
use Rattle.unifier.proofs.PendingLaws.{waiting_pushed}
use Rattle.unifier.proofs.HeadSteps.{bound_below, pair_nothing, pair_bound, pair_clash, pair_split}
use Rattle.unifier.proofs.heads.unify_met.Goals.{In_ok-step, In_ok-push_equations-in-Arguments}
use Rattle.unifier.proofs.heads.unify_met.Goals as goal

-- what the equation of the two terms asks for
asked : (c : In_ok-step) → let s = c.args.bindings.now in first_step (full s (raised_tree c.args.left.term)) (full s (raised_tree c.args.right.term)) ≡ step_of s c.args.left.term.base c.args.right.term.base c.in_ok-step.field-0
asked c = sym c.in_ok-step.ensures.step

-- the equations of their arguments, which alone are on the stack
waits : (c : In_ok-push_equations-in-Arguments) → let s = c.args.bindings.now in waiting s c.push_equations.new.stack.items
    ≡ pairs (args_full s c.args.left.term.base c.in-Arguments.ts.now) (args_full s c.args.right.term.base c.in-Arguments.us.now) ++ []
waits c =
    let s = c.args.bindings.now in
    let n = c.args.left.term.base in
    let m = c.args.right.term.base in
    let qs = pairs (args_full s n c.in-Arguments.ts.now) (args_full s m c.in-Arguments.us.now) in
    waiting_pushed s n m c.in-Arguments.ts.now c.in-Arguments.us.now c.push_equations.new.stack.items c.clear.new.self.items c.in_ok-push_equations-in-Arguments.ensures ∙ ap (λ (ps : List (RaisedTerm × RaisedTerm)). qs ++ waiting s ps) c.clear.ensures.items

pub solve-requires : goal.solve-requires
solve-requires c =
    let at = goal.at.solve-requires c in
    let s = c.args.bindings.now in
    let l = c.args.left.term in
    let r = c.args.right.term in
    let qs = pairs (args_full s l.base c.in-Arguments.ts.now) (args_full s r.base c.in-Arguments.us.now) in
    let h = rw c.in-Arguments.is at (asked at.In_ok-step) in
    subst (LeftBelow c.args.limit.now) (sym (waits at.In_ok-push_equations-in-Arguments))
    (left_append c.args.limit.now qs [] (left_split c.args.limit.now (full s (raised_tree l)) (full s (raised_tree r)) qs h c.requires.below) tt)

pub returns-in-Nothing-clause-unified : goal.returns-in-Nothing-clause-unified
returns-in-Nothing-clause-unified c =
    let h = rw c.in-Nothing.is at (asked (goal.at.returns-in-Nothing-clause-unified c).In_ok-step) in
    pair_nothing c.args.bindings.now c.args.left.term c.args.right.term h

pub returns-in_ok-bind-in-Binds-clause-unified : goal.returns-in_ok-bind-in-Binds-clause-unified
returns-in_ok-bind-in-Binds-clause-unified c =
    let h = rw c.in-Binds.is at (asked (goal.at.returns-in_ok-bind-in-Binds-clause-unified c).In_ok-step) in
    pair_bound c.args.bindings.now c.bind.new.self c.args.left.term c.args.right.term c.in-Binds.x (raised_tree c.in-Binds.term) h c.in_ok-bind-in-Binds.ensures

pub returns-in_ok-bind-in-Binds-clause-limit : goal.returns-in_ok-bind-in-Binds-clause-limit
returns-in_ok-bind-in-Binds-clause-limit c =
    let s = c.args.bindings.now in
    let limit = c.args.limit.now in
    let now = c.max.result in
    let fit = rw c.in-Binds.is at c.in_ok-step.ensures.fit in
    subst (StaysBelow limit s now) (sym c.in_ok-bind-in-Binds.ensures)
    (bound_below s c.in-Binds.x (raised_tree c.in-Binds.term) limit c.in-Binds.above now (omega (arith, c.max.ensures)) (omega (arith, c.max.ensures)) fit.2)

pub returns-in_ok-solved-in-Arguments-clause-unified : goal.returns-in_ok-solved-in-Arguments-clause-unified
returns-in_ok-solved-in-Arguments-clause-unified c =
    let at = goal.at.returns-in_ok-solved-in-Arguments-clause-unified c in
    let s = c.args.bindings.now in
    let l = c.args.left.term in
    let r = c.args.right.term in
    let qs = pairs (args_full s l.base c.in-Arguments.ts.now) (args_full s r.base c.in-Arguments.us.now) in
    let h = rw c.in-Arguments.is at (asked at.In_ok-step) in
    let found = c.in_ok-solved-in-Arguments.ensures in
    pair_split s c.solve.new.bindings l r c.in_ok-solved-in-Arguments.solved qs (waiting s c.push_equations.new.stack.items) h (waits at.In_ok-push_equations-in-Arguments) found.unifier found.extended found.free

pub returns-in-Clash-clause-unified : goal.returns-in-Clash-clause-unified
returns-in-Clash-clause-unified c =
    let h = rw c.in-Clash.is at (asked (goal.at.returns-in-Clash-clause-unified c).In_ok-step) in
    pair_clash c.args.bindings.now c.args.left.term c.args.right.term h
