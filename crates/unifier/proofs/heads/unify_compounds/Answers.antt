use Rattle.std.proofs.Common.{◌≡◌, append-nil, ap, sym, ◌∙◌, subst}
use Rattle.cti_terms.specs.Tree.{Tree, all_instances}
use Rattle.cti_terms.specs.Spell.{trees_of}
use Rattle.cti_terms.specs.Unify.{first_step, pairs}
use Rattle.unifier.specs.Raised.{raise, raised_tree}
use Rattle.unifier.specs.Shapes.{shape_full}
use Rattle.unifier.specs.Store.{full}
use Rattle.unifier.specs.Below.{LeftBelow}
use Rattle.unifier.specs.Pending.{waiting_from, args_full, AgreeAs}
use Rattle.unifier.proofs.BelowLaws.{left_split}
use Rattle.unifier.proofs.PendingLaws.{under_bindings-pairs}
use Rattle.unifier.proofs.HeadSteps.{pair_clash, pair_split}
use Rattle.unifier.proofs.heads.unify_compounds.Goals.{After-agree}
use Rattle.unifier.proofs.heads.unify_compounds.Goals as goal

first_steps : {t u v w : Tree} → t ≡ v → u ≡ w → first_step t u ≡ first_step v w
first_steps p q = λ i. first_step (p i) (q i)

-- two compound terms ask for the equations of their arguments, or fail
module _ (c : After-agree) where
  agree_as : let s = c.args.bindings.now in let l = c.args.left.term in let r = c.args.right.term in let both = c.in-Compound-Compound in
      AgreeAs c.agree.result (first_step (full s (raised_tree l)) (full s (raised_tree r))) (pairs (args_full s l.base both.ts.now) (args_full s r.base both.us.now))
  agree_as =
      let s = c.args.bindings.now in
      let n = c.args.left.term.base in
      let m = c.args.right.term.base in
      let trees = first_steps (c.requires.left.tree ∙ ap (shape_full s n) c.in-Compound-Compound.is-0) (c.requires.right.tree ∙ ap (shape_full s m) c.in-Compound-Compound.is-1) in
      rw trees (c.agree.ensures s n m)

  waits : let s = c.args.bindings.now in let l = c.args.left.term in let r = c.args.right.term in let both = c.in-Compound-Compound in
      waiting_from s l.base r.base both.ts.now both.us.now 0 ≡ pairs (args_full s l.base both.ts.now) (args_full s r.base both.us.now)
  waits = under_bindings-pairs c.args.bindings.now (all_instances (raise c.args.left.term.base) (trees_of c.in-Compound-Compound.ts.now)) (all_instances (raise c.args.right.term.base) (trees_of c.in-Compound-Compound.us.now))

pub returns-then-not-agree-clause-unified : goal.returns-then-not-agree-clause-unified
returns-then-not-agree-clause-unified c =
    let h = rw c.if-not-agree.true at (agree_as (goal.at.returns-then-not-agree-clause-unified c).After-agree) in
    pair_clash c.args.bindings.now c.args.left.term c.args.right.term (sym h)

pub unify_arguments-requires : goal.unify_arguments-requires
unify_arguments-requires c =
    let at = (goal.at.unify_arguments-requires c).After-agree in
    let s = c.args.bindings.now in
    let l = c.args.left.term in
    let r = c.args.right.term in
    let qs = pairs (args_full s l.base c.in-Compound-Compound.ts.now) (args_full s r.base c.in-Compound-Compound.us.now) in
    let h = rw c.if-not-agree.false at (agree_as at) in
    subst (LeftBelow c.args.limit.now) (sym (waits at)) (left_split c.args.limit.now (full s (raised_tree l)) (full s (raised_tree r)) qs (sym h) c.requires.below)

pub returns-in_ok-unified-in-Compound-Compound-clause-unified : goal.returns-in_ok-unified-in-Compound-Compound-clause-unified
returns-in_ok-unified-in-Compound-Compound-clause-unified c =
    let at = (goal.at.returns-in_ok-unified-in-Compound-Compound-clause-unified c).After-agree in
    let s = c.args.bindings.now in
    let l = c.args.left.term in
    let r = c.args.right.term in
    let ts = c.in-Compound-Compound.ts.now in
    let us = c.in-Compound-Compound.us.now in
    let qs = pairs (args_full s l.base ts) (args_full s r.base us) in
    let h = rw c.if-not-agree.false at (agree_as at) in
    let found = c.in_ok-unified-in-Compound-Compound.ensures in
    pair_split s c.unify_arguments.new.bindings l r c.in_ok-unified-in-Compound-Compound.unified qs (waiting_from s l.base r.base ts us 0) (sym h) (waits at ∙ sym (append-nil qs)) found.unifier found.extended found.free
