use Rattle.std.proofs.Common.{◌≡◌, inl, ℕ, false, ◌||◌, [], ◌∷◌, ◌++◌, refl, ap, sym, ◌∙◌, arith}
use Rattle.std.proofs.lemmas.List.{map-append}
use Rattle.cti_terms.specs.Unify.{occurs}
use Rattle.unifier.specs.Raised.{raised_tree}
use Rattle.unifier.specs.Store.{full}
use Rattle.unifier.specs.Pending.{weight, occurs_left}
use Rattle.unifier.specs.Visits.{IsWanted, arguments_tree, raw_arguments}
use Rattle.unifier.proofs.PendingLaws.{or_none, or_second_true, occurs_left-append, weight-append}
use Rattle.unifier.proofs.CoverLaws.{still_wanted}
use Rattle.unifier.proofs.occurs_check.occurs_in.Goals.{In-Some}
use Rattle.unifier.proofs.occurs_check.occurs_in.Goals as goal

-- the arguments on top of the stack, and the others
last_arguments : (c : In-Some) → raw_arguments c.loop-next.stack.items ≡ raw_arguments c.pop.new.self.items ++ arguments_tree c.in-Some.next ∷ []
last_arguments c = ap raw_arguments c.in-Some.ensures.items ∙ map-append arguments_tree c.pop.new.self.items (c.in-Some.next ∷ [])

pub loop-next-init : goal.loop-next-init
loop-next-init c =
    let looked = rw (c.clear.ensures.items, c.clear-2.ensures) at (rw c.if-branch.false at c.in_ok-look.ensures.looked) in
    record {
      left = λ x w. (looked [] x w tt).0 ∙ or_none (occurs x (full c.args.bindings.now (raised_tree c.args.term)));
      covered = λ x w. (looked [] x w tt).1;
    }

pub returns-then-branch-2 : goal.returns-then-branch-2
returns-then-branch-2 c =
    let s = c.args.bindings.now in
    let v = c.args.variable in
    let rest = raw_arguments c.pop.new.self.items in
    let t = arguments_tree c.in-Some.next in
    let found = rw c.if-branch-2.true at c.in_ok-look_at_all.ensures.looked in
    sym (c.loop-next.invariant.left v (inl refl))
    ∙ ap (occurs_left s v) (last_arguments (goal.at.returns-then-branch-2 c).In-Some)
    ∙ occurs_left-append s v rest (t ∷ [])
    ∙ or_second_true (occurs_left s v rest) (occurs v (full s t) || false) (ap (λ b. b || false) found)

pub loop-next-smaller : goal.loop-next-smaller
loop-next-smaller c =
    let s = c.args.bindings.now in
    let e = last_arguments (goal.at.loop-next-smaller c).In-Some in
    omega (arith, ap (weight s) e, weight-append s (raw_arguments c.pop.new.self.items) (arguments_tree c.in-Some.next ∷ []), c.in_ok-look_at_all.ensures.weight)

pub loop-next-preserved : goal.loop-next-preserved
loop-next-preserved c =
    let s = c.args.bindings.now in
    let v = c.args.variable in
    let above = c.look_at_all.new.above in
    let e = last_arguments (goal.at.loop-next-preserved c).In-Some in
    let looked = rw c.if-branch-2.false at c.in_ok-look_at_all.ensures.looked in
    let wanted = λ (x : ℕ) (w : IsWanted v above x). still_wanted v c.loop-next.above above x c.in_ok-look_at_all.ensures.above w in
    let leads = λ (x : ℕ) (w : IsWanted v above x). looked [] x w (rw e at (c.loop-next.invariant.covered x (wanted x w))) in
    record {
      left = λ x w. (leads x w).0 ∙ ap (occurs_left s x) (sym e) ∙ c.loop-next.invariant.left x (wanted x w);
      covered = λ x w. (leads x w).1;
    }
