use Rattle.std.proofs.Common.{◌≡◌, min, length, get_or, ap, arith}
use Rattle.unifier.proofs.HeadSteps.{IsNextPair, none_unified, all_unified, pair_fails, pair_extended, pair_free, pair_unified}
use Rattle.unifier.proofs.heads.unify_arguments.Goals.{In_ok-unify_parts}
use Rattle.unifier.proofs.heads.unify_arguments.Goals as goal

next_pair : (c : In_ok-unify_parts) → let l = c.args.left in let r = c.args.right in let i = c.loop-i.i in
    IsNextPair c.args.bindings.now c.loop-i.bindings l.base r.base l.args.now r.args.now i c.loop-i.limit (get_or l.args.now i c.index-left-i.result) (get_or r.args.now i c.index-right-i.result)
next_pair c = record {
  unified = c.loop-i.invariant.unified;
  within = omega (arith, c.loop-i-test.true, c.min-count.ensures);
  left = ap (get_or c.args.left.args.now c.loop-i.i) c.index-left-i.is;
  right = ap (get_or c.args.right.args.now c.loop-i.i) c.index-right-i.is;
}

pub loop-i-init : goal.loop-i-init
loop-i-init c =
    let l = c.args.left in
    let r = c.args.right in
    record {
      within = omega arith;
      unified = none_unified c.args.bindings.now l.base r.base l.args.now r.args.now c.args.limit.now c.requires;
      stays = λ es h. h;
    }

pub loop-i-preserved : goal.loop-i-preserved
loop-i-preserved c =
    let next = next_pair (goal.at.loop-i-preserved c).In_ok-unify_parts in
    let unified = c.in_ok-unify_parts.ensures.unified in
    let unifier = rw c.if-not-branch.false at unified.unifier in
    record {
      within = omega (arith, next.within);
      unified = pair_unified next c.unify_parts.new.bindings unified.extended unified.free c.unify_parts.new.limit unifier c.in_ok-unify_parts.ensures.limit;
      stays = λ es h. c.in_ok-unify_parts.ensures.limit es (c.loop-i.invariant.stays es h);
    }

pub returns-then-not-branch-clause-unifier : goal.returns-then-not-branch-clause-unifier
returns-then-not-branch-clause-unifier c =
    let none = rw c.if-not-branch.true at c.in_ok-unify_parts.ensures.unified.unifier in
    pair_fails (next_pair (goal.at.returns-then-not-branch-clause-unifier c).In_ok-unify_parts) none

pub returns-then-not-branch-clause-limit : goal.returns-then-not-branch-clause-limit
returns-then-not-branch-clause-limit c = λ es h. c.in_ok-unify_parts.ensures.limit es (c.loop-i.invariant.stays es h)

pub returns-then-not-branch-clause-extended : goal.returns-then-not-branch-clause-extended
returns-then-not-branch-clause-extended c =
    let unified = c.in_ok-unify_parts.ensures.unified in
    pair_extended (next_pair (goal.at.returns-then-not-branch-clause-extended c).In_ok-unify_parts) c.unify_parts.new.bindings unified.extended unified.free

pub returns-then-not-branch-clause-free : goal.returns-then-not-branch-clause-free
returns-then-not-branch-clause-free c =
    let unified = c.in_ok-unify_parts.ensures.unified in
    pair_free (next_pair (goal.at.returns-then-not-branch-clause-free c).In_ok-unify_parts) c.unify_parts.new.bindings unified.extended unified.free

pub returns-clause-unifier : goal.returns-clause-unifier
returns-clause-unifier c =
    let l = c.args.left in
    let r = c.args.right in
    let all : c.loop-i.i ≡ min (length l.args.now) (length r.args.now) = omega (arith, c.loop-i-test.false, c.min-count.ensures, c.loop-i.invariant.within) in
    all_unified c.args.bindings.now c.loop-i.bindings l.base r.base l.args.now r.args.now c.loop-i.i c.loop-i.limit c.loop-i.invariant.unified all
