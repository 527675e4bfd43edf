use Rattle.std.proofs.Common.{◌≡◌, ◌<◌, true, List, [], ◌∷◌, ◌++◌, append_assoc, append-nil, option_map, arith, refl, ap, sym, ◌∙◌, subst}
use Rattle.cti_terms.specs.Unify.{Equation, Binding, replaced}
use Rattle.cti_terms.specs.UnifyFunction.{unify, occurring, above_equations, occurs_in}
use Rattle.cti_terms.proofs.UnifyLaws.{below_equations}
use Rattle.unifier.specs.declared.unification.Next.TheVariants.{Bound}
use Rattle.unifier.specs.Raised.{raised_tree}
use Rattle.unifier.specs.Store.{full, made}
use Rattle.unifier.specs.Pending.{raw_equations, waiting, IsNext}
use Rattle.unifier.proofs.HeadSteps.{bound_below}
use Rattle.unifier.proofs.PendingLaws.{under_more}
use Rattle.unifier.proofs.UnifySteps.{fewer_occur, option_map_same, option_map_twice, stays_free}
use Rattle.unifier.proofs.unification.solve.Goals.{In_ok-bind-in-Bound}
use Rattle.unifier.proofs.unification.solve.Goals as goal

-- the next binding
module _ (c : In_ok-bind-in-Bound) where
  next : IsNext c.loop-x.bindings (waiting c.loop-x.bindings c.loop-x.equations.items) (Bound c.in-Bound.x c.in-Bound.term c.in-Bound.above) (waiting c.loop-x.bindings c.next_binding.new.equations.items)
  next = rw c.in-Bound.is at c.in_ok-next_binding.ensures.next

  same : let s = c.loop-x.bindings in let left = c.next_binding.new.equations.items in waiting c.bind.new.self left ≡ replaced c.in-Bound.x (full s (raised_tree c.in-Bound.term)) (waiting s left)
  same =
      let left = c.next_binding.new.equations.items in
      ap (λ (b : List Binding). waiting b left) c.in_ok-bind-in-Bound.ensures ∙ under_more c.loop-x.bindings (c.in-Bound.x, raised_tree c.in-Bound.term) (raw_equations left)

pub loop-x-init : goal.loop-x-init
loop-x-init c =
    let s = c.args.bindings.now in
    let first = waiting s c.args.equations.now.items in
    record {
      so_far = ([], sym (append-nil (made s)), option_map_same (unify first));
      limits = λ es h. h;
      left = c.requires;
      pairs = c.clear.ensures s first;
      inside = λ y h. h;
      free = λ y gone free. free;
      extended = ([], refl);
    }

pub loop-x-smaller : goal.loop-x-smaller
loop-x-smaller c =
    let at = (goal.at.loop-x-smaller c).In_ok-bind-in-Bound in
    let s = c.loop-x.bindings in
    let first = waiting c.args.bindings.now c.args.equations.now.items in
    let before = waiting s c.loop-x.equations.items in
    let t = full s (raised_tree c.in-Bound.term) in
    let less = fewer_occur (above_equations first) c.in-Bound.x t before (replaced c.in-Bound.x t (waiting s c.next_binding.new.equations.items)) (λ y h. below_equations y first (c.loop-x.invariant.inside y h)) (next at).3 in
    subst (λ (es : List Equation). occurring (above_equations first) es < occurring (above_equations first) before) (sym (same at)) less

pub loop-x-preserved : goal.loop-x-preserved
loop-x-preserved c =
    let at = (goal.at.loop-x-preserved c).In_ok-bind-in-Bound in
    let s = c.loop-x.bindings in
    let x = c.in-Bound.x in
    let t = raised_tree c.in-Bound.term in
    let left = c.next_binding.new.equations.items in
    let b : Binding = (x, full s t) in
    let is = c.in_ok-bind-in-Bound.ensures in
    let inv = c.loop-x.invariant in
    let old = inv.so_far in
    let stays = bound_below s x t c.loop-x.limit c.in-Bound.above c.max.result (omega (arith, c.max.ensures)) (omega (arith, c.max.ensures)) (next at).2 in
    record {
      so_far = (
        old.0 ++ b ∷ [],
        ap made is ∙ ap (λ l. l ++ b ∷ []) old.1 ∙ append_assoc (made c.args.bindings.now) old.0 (b ∷ []),
        old.2
            ∙ ap (option_map (λ cs. old.0 ++ cs)) ((next at).3.unifier ∙ ap (λ es. option_map (λ cs. b ∷ cs) (unify es)) (sym (same at)))
            ∙ option_map_twice old.0 b (unify (waiting c.bind.new.self left)),
      );
      limits = λ es h. rw is (stays es (inv.limits es h));
      left = rw is (stays (raw_equations left) c.in_ok-next_binding.ensures.left);
      pairs = rw is (rw c.in-Bound.is at c.in_ok-next_binding.ensures.pairs);
      inside = λ y h. inv.inside y ((next at).3.inside y (subst (λ (es : List Equation). occurs_in y es ≡ true) (same at) h));
      free = λ y gone free. rw is (stays_free x y t s (waiting c.args.bindings.now c.args.equations.now.items) gone (inv.inside x (next at).3.there) (inv.free y gone free));
      extended = ((x, t) ∷ inv.extended.0, is ∙ ap (λ l. (x, t) ∷ l) inv.extended.1);
    }
