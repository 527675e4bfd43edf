use Rattle.std.proofs.Common.{◌≡◌, min, length, sym, subst, arith}
use Rattle.cti_terms.specs.Resolve.{over, raised, head_equations}
use Rattle.unifier.specs.Store.{full}
use Rattle.unifier.specs.Below.{LeftBelow}
use Rattle.unifier.specs.Pending.{waiting_from}
use Rattle.unifier.proofs.BelowLaws.{left_arguments}
use Rattle.unifier.proofs.HeadLaws.{head_waits}
use Rattle.unifier.proofs.HeadSteps.{IsNextPair, none_unified, all_unified, pair_fails, pair_extended, pair_free, pair_unified}
use Rattle.unifier.proofs.heads.unify_head.Goals.{After-as_slice-right, In_ok-unify_terms}
use Rattle.unifier.proofs.heads.unify_head.Goals as goal

-- the equations of the head
waits : (c : After-as_slice-right) → waiting_from c.args.bindings.now c.args.base c.args.fresh c.as_slice-left.result.now c.as_slice-right.result.now 0 ≡ head_equations (over (full c.args.bindings.now) (raised c.args.base c.args.atom.now)) c.args.fresh c.args.clause.now
waits c = head_waits c.args.bindings.now c.args.atom.now c.args.base c.args.fresh c.args.clause.now c.as_slice-left.result.now c.as_slice-right.result.now c.as_slice-left.ensures c.as_slice-right.ensures c.requires.free

next_pair : (c : In_ok-unify_terms) → IsNextPair c.args.bindings.now c.loop-i.bindings c.args.base c.args.fresh c.as_slice-left.result.now c.as_slice-right.result.now c.loop-i.i c.loop-i.limit c.index-left-i.result c.index-right-i.result
next_pair c = record {
  unified = c.loop-i.invariant.unified;
  within = omega (arith, c.loop-i-test.true, c.min-count.ensures);
  left = c.index-left-i.is;
  right = c.index-right-i.is;
}

pub loop-i-init : goal.loop-i-init
loop-i-init c =
    let at = goal.at.loop-i-init c in
    let k = c.args.bindings.now in
    let ts = c.as_slice-left.result.now in
    let us = c.as_slice-right.result.now in
    let a = over (full k) (raised c.args.base c.args.atom.now) in
    let below = subst (LeftBelow c.args.fresh) (sym (waits at.After-as_slice-right)) (left_arguments c.args.fresh a.args (raised c.args.fresh c.args.clause.now.head).args c.requires.below) in
    record {
      within = omega arith;
      unified = none_unified k c.args.base c.args.fresh ts us c.args.fresh below;
    }

pub loop-i-preserved : goal.loop-i-preserved
loop-i-preserved c =
    let next = next_pair (goal.at.loop-i-preserved c).In_ok-unify_terms in
    let unified = c.in_ok-unify_terms.ensures.unified in
    let unifier = rw c.if-not-branch.false at unified.unifier in
    record {
      within = omega (arith, next.within);
      unified = pair_unified next c.unify_terms.new.bindings unified.extended unified.free c.unify_terms.new.limit unifier c.in_ok-unify_terms.ensures.limit;
    }

pub returns-then-not-branch-clause-unifier : goal.returns-then-not-branch-clause-unifier
returns-then-not-branch-clause-unifier c =
    let at = goal.at.returns-then-not-branch-clause-unifier c in
    let none = rw c.if-not-branch.true at c.in_ok-unify_terms.ensures.unified.unifier in
    rw (waits at.After-as_slice-right) at (pair_fails (next_pair at.In_ok-unify_terms) none)

pub returns-then-not-branch-clause-extended : goal.returns-then-not-branch-clause-extended
returns-then-not-branch-clause-extended c =
    let unified = c.in_ok-unify_terms.ensures.unified in
    pair_extended (next_pair (goal.at.returns-then-not-branch-clause-extended c).In_ok-unify_terms) c.unify_terms.new.bindings unified.extended unified.free

pub returns-then-not-branch-clause-free : goal.returns-then-not-branch-clause-free
returns-then-not-branch-clause-free c =
    let at = goal.at.returns-then-not-branch-clause-free c in
    let unified = c.in_ok-unify_terms.ensures.unified in
    rw (waits at.After-as_slice-right) at (pair_free (next_pair at.In_ok-unify_terms) c.unify_terms.new.bindings unified.extended unified.free)

pub returns-clause-unifier : goal.returns-clause-unifier
returns-clause-unifier c =
    let ts = c.as_slice-left.result.now in
    let us = c.as_slice-right.result.now in
    let all : c.loop-i.i ≡ min (length ts) (length us) = omega (arith, c.loop-i-test.false, c.min-count.ensures, c.loop-i.invariant.within) in
    rw (waits (goal.at.returns-clause-unifier c).After-as_slice-right) at (all_unified c.args.bindings.now c.loop-i.bindings c.args.base c.args.fresh ts us c.loop-i.i c.loop-i.limit c.loop-i.invariant.unified all)

pub returns-clause-free : goal.returns-clause-free
returns-clause-free c = rw (waits (goal.at.returns-clause-free c).After-as_slice-right) at c.loop-i.invariant.unified.free
