use Rattle.std.proofs.Common.{◌≡◌, ◌+◌, List, [], ◌∷◌, ◌++◌, append-nil, ap, ◌∙◌, subst, arith}
use Rattle.cti_terms.specs.Tree.{Tree, instance, all_instances}
use Rattle.cti_terms.specs.Spell.{tree_of, trees_of}
use Rattle.unifier.specs.Raised.{raise}
use Rattle.unifier.specs.Pending.{weight}
use Rattle.unifier.specs.Visits.{Leads, arguments_tree, raw_arguments}
use Rattle.unifier.proofs.PendingLaws.{full_compound}
use Rattle.unifier.proofs.CoverLaws.{still_wanted}
use Rattle.unifier.proofs.LeadLaws.{lead_on, leads_arguments, leads_middle, leads_last, arguments_from, arguments_more, arguments_none, found_argument, weight_all}
use Rattle.unifier.proofs.occurs_check.look_at_all.Goals.{In_ok-look}
use Rattle.unifier.proofs.occurs_check.look_at_all.Goals as goal

-- the next argument, and those after it
next_argument : (c : In_ok-look) → let n = c.args.next.base in let args = c.args.next.args.now in
    arguments_from n c.loop-term.term-index args ≡ instance (raise n) (tree_of c.term-item.result) ∷ arguments_from n (c.loop-term.term-index + 1) args
next_argument c = arguments_more c.args.next.base c.loop-term.term-index c.args.next.args.now c.term-item.result c.loop-term-test.true c.term-item.is

pub loop-term-init : goal.loop-term-init
loop-term-init c =
    let s = c.args.bindings.now in
    let n = c.args.next.base in
    let args = c.args.next.args.now in
    let old = raw_arguments c.args.stack.now.items in
    let ys = c.args.visited.now in
    let t = arguments_tree c.args.next in
    record {
      above = omega arith;
      leads = λ more x w. lead_on s x ((more ++ old) ++ t ∷ []) ((more ++ old) ++ arguments_from n 0 args) ((more ++ arguments_from n 0 args) ++ old) ys ys ys
          (leads_arguments s x (more ++ old) ys n 0 t args (full_compound s 0 (all_instances (raise n) (trees_of args))))
          (leads_middle s x more old (arguments_from n 0 args) ys);
      weight = omega (arith, weight_all s n args);
    }

pub returns-then-branch-clause-above : goal.returns-then-branch-clause-above
returns-then-branch-clause-above c = omega (arith, c.loop-term.invariant.above, c.in_ok-look.ensures.above)

pub returns-then-branch-clause-looked : goal.returns-then-branch-clause-looked
returns-then-branch-clause-looked c =
    let found = rw c.if-branch.true at c.in_ok-look.ensures.looked in
    found_argument c.args.bindings.now c.args.variable c.args.next.base c.loop-term.term-index c.args.next.args.now c.term-item.result c.loop-term-test.true c.term-item.is found

pub returns-then-branch-clause-weight : goal.returns-then-branch-clause-weight
returns-then-branch-clause-weight c =
    let p = next_argument (goal.at.returns-then-branch-clause-weight c).In_ok-look in
    omega (arith, c.loop-term.invariant.weight, c.in_ok-look.ensures.weight, ap (weight c.args.bindings.now) p)

pub loop-term-preserved : goal.loop-term-preserved
loop-term-preserved c =
    let s = c.args.bindings.now in
    let n = c.args.next.base in
    let old = raw_arguments c.loop-term.stack.items in
    let new = raw_arguments c.look.new.stack.items in
    let start = raw_arguments c.args.stack.now.items in
    let t = instance (raise n) (tree_of c.term-item.result) in
    let rest = arguments_from n (c.loop-term.term-index + 1) c.args.next.args.now in
    let ys = c.args.visited.now in
    let zs = c.loop-term.visited in
    let p = next_argument (goal.at.loop-term-preserved c).In_ok-look in
    let looked = rw c.if-branch.false at c.in_ok-look.ensures.looked in
    record {
      above = omega (arith, c.loop-term.invariant.above, c.in_ok-look.ensures.above);
      leads = λ more x w.
          let whole = (more ++ start) ++ arguments_tree c.args.next ∷ [] in
          let there = rw p at (c.loop-term.invariant.leads more x (still_wanted c.args.variable c.loop-term.above c.look.new.above x c.in_ok-look.ensures.above w)) in
          let moved = lead_on s x whole ((more ++ t ∷ rest) ++ old) (((more ++ rest) ++ old) ++ t ∷ []) ys zs zs there (leads_last s x more rest old t zs) in
          lead_on s x whole (((more ++ rest) ++ old) ++ t ∷ []) ((more ++ rest) ++ new) ys zs c.look.new.visited moved (looked (more ++ rest) x w);
      weight = omega (arith, c.loop-term.invariant.weight, c.in_ok-look.ensures.weight, ap (weight s) p);
    }

pub returns-clause-above : goal.returns-clause-above
returns-clause-above c = c.loop-term.invariant.above

pub returns-clause-looked : goal.returns-clause-looked
returns-clause-looked c more x w =
    let s = c.args.bindings.now in
    let old = raw_arguments c.loop-term.stack.items in
    let start = raw_arguments c.args.stack.now.items in
    let p = arguments_none c.args.next.base c.loop-term.term-index c.args.next.args.now (omega (arith, c.loop-term-test.false)) in
    subst (λ (l : List Tree). Leads s x ((more ++ start) ++ arguments_tree c.args.next ∷ []) c.args.visited.now (l ++ old) c.loop-term.visited) (ap (λ l. more ++ l) p ∙ append-nil more) (c.loop-term.invariant.leads more x w)

pub returns-clause-weight : goal.returns-clause-weight
returns-clause-weight c = omega (arith, c.loop-term.invariant.weight)
