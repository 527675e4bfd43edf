use Rattle.std.proofs.Common.{◌≡◌, ◌+◌, ◌≤◌, List, ◌∷◌, ◌++◌, length, refl, ap, sym, ◌∙◌, subst, arith}
use Rattle.cti_terms.specs.Unify.{Equation, first_step, pairs}
use Rattle.cti_terms.specs.UnifyFunction.{work}
use Rattle.cti_terms.proofs.Unifier.{same_dropped}
use Rattle.cti_terms.proofs.UnifyLaws.{work_split, work-append}
use Rattle.unifier.specs.Raised.{raised_tree}
use Rattle.unifier.specs.Store.{full}
use Rattle.unifier.specs.Pending.{raw_equations, waiting, step_of, args_full}
use Rattle.unifier.specs.Below.{LeftBelow}
use Rattle.unifier.specs.Remembered.{AreRemembered}
use Rattle.unifier.proofs.BelowLaws.{left_append, left_split}
use Rattle.unifier.proofs.PendingLaws.{length-waiting, waiting_first, waiting_pushed, under_more}
use Rattle.unifier.proofs.RememberedLaws.{unify_equal, less_work, remembered_dropped, remembered_split, remembered_bound, opened}
use Rattle.unifier.proofs.UnifySteps.{HaveUnifierOf, inside_rest, after_nothing, after_arguments, after_clash, after_binding}
use Rattle.unifier.proofs.unification.next_binding.Goals.{In_ok-know, In_ok-step, In_ok-open_arguments-in-Arguments}
use Rattle.unifier.proofs.unification.next_binding.Goals as goal

-- the equation on top of the stack, and the others
module _ (c : In_ok-know) where
  abbrev equations : List Equation
  equations = let s = c.args.bindings.now in (full s (raised_tree c.in-Some.l), full s (raised_tree c.in-Some.r)) ∷ waiting s c.pop.new.self.items

  first : waiting c.args.bindings.now c.loop-l.equations.items ≡ equations
  first = let s = c.args.bindings.now in waiting_first s c.loop-l.equations.items c.pop.new.self.items c.in-Some.l c.in-Some.r (full s (raised_tree c.in-Some.l)) (full s (raised_tree c.in-Some.r)) c.in-Some.ensures.items refl refl

  below : LeftBelow c.args.limit equations
  below = rw first at c.loop-l.invariant.left

  left : HaveUnifierOf (waiting c.args.bindings.now c.args.equations.now.items) equations
  left = record { unifier = rw first at c.loop-l.invariant.same; inside = rw first at c.loop-l.invariant.inside }

  few : length (waiting c.args.bindings.now c.loop-l.equations.items) ≤ c.len-below.result + 1
  few = omega (arith, c.len-below.ensures, c.pop.new.self.ok.0, ap length first, length-waiting c.args.bindings.now c.pop.new.self.items)

  kept : AreRemembered c.args.bindings.now equations c.know.new.self
  kept = rw first at (c.in_ok-know.ensures.kept c.args.bindings.now (waiting c.args.bindings.now c.loop-l.equations.items) few c.loop-l.invariant.pairs)

-- what the equation asks for
asked : (c : In_ok-step) → let s = c.args.bindings.now in first_step (full s (raised_tree c.in-Some.l)) (full s (raised_tree c.in-Some.r)) ≡ step_of s c.met-left.result.term.base c.met-right.result.term.base c.in_ok-step.field-0
asked c = rw (c.met-left.ensures.same, c.met-right.ensures.same) at (sym c.in_ok-step.ensures.step)

-- its arguments are put on the stack
pushed : (c : In_ok-open_arguments-in-Arguments) → let s = c.args.bindings.now in waiting s c.open_arguments.new.stack.items
    ≡ pairs (args_full s c.met-left.result.term.base c.in-Arguments.ts.now) (args_full s c.met-right.result.term.base c.in-Arguments.us.now) ++ waiting s c.pop.new.self.items
pushed c = waiting_pushed c.args.bindings.now c.met-left.result.term.base c.met-right.result.term.base c.in-Arguments.ts.now c.in-Arguments.us.now c.open_arguments.new.stack.items c.pop.new.self.items c.in_ok-open_arguments-in-Arguments.ensures.stack

pub loop-l-preserved-in-Nothing : goal.loop-l-preserved-in-Nothing
loop-l-preserved-in-Nothing c =
    let at = goal.at.loop-l-preserved-in-Nothing c in
    let s = c.args.bindings.now in
    let t = full s (raised_tree c.in-Some.l) in
    let u = full s (raised_tree c.in-Some.r) in
    let h = rw c.in-Nothing.is at (asked at.In_ok-step) in
    let after = after_nothing (left at.In_ok-know) h in
    record {
      left = (below at.In_ok-know).1;
      same = after.unifier;
      inside = after.inside;
      pairs = remembered_dropped s t u (waiting s c.pop.new.self.items) c.know.new.self (same_dropped t u h) (kept at.In_ok-know);
    }

pub returns-in-Binds : goal.returns-in-Binds
returns-in-Binds c =
    let at = goal.at.returns-in-Binds c in
    let s = c.args.bindings.now in
    let w = raised_tree c.in-Binds.term in
    let rest = c.pop.new.self.items in
    let h = rw c.in-Binds.is at (asked at.In_ok-step) in
    let fit = rw c.in-Binds.is at c.in_ok-step.ensures.fit in
    record {
      left = (below at.In_ok-know).1;
      next = (fit.0, fit.1, fit.2, after_binding (left at.In_ok-know) c.in-Binds.x (full s w) h);
      pairs =
          subst (λ (es : List Equation). AreRemembered ((c.in-Binds.x, w) ∷ s) es c.know.new.self) (sym (under_more s (c.in-Binds.x, w) (raw_equations rest)))
          (remembered_bound s (full s (raised_tree c.in-Some.l)) (full s (raised_tree c.in-Some.r)) c.in-Binds.x w (waiting s rest) c.know.new.self h (kept at.In_ok-know));
    }

pub loop-l-smaller : goal.loop-l-smaller
loop-l-smaller c =
    let at = goal.at.loop-l-smaller c in
    let s = c.args.bindings.now in
    let qs = pairs (args_full s c.met-left.result.term.base c.in-Arguments.ts.now) (args_full s c.met-right.result.term.base c.in-Arguments.us.now) in
    let less = work_split (full s (raised_tree c.in-Some.l)) (full s (raised_tree c.in-Some.r)) qs (rw c.in-Arguments.is at (asked at.In_ok-step)) in
    omega (arith, less, work-append qs (waiting s c.pop.new.self.items), ap work (first at.In_ok-know), ap work (pushed at.In_ok-open_arguments-in-Arguments))

pub loop-l-preserved : goal.loop-l-preserved
loop-l-preserved c =
    let at = goal.at.loop-l-preserved c in
    let s = c.args.bindings.now in
    let t = full s (raised_tree c.in-Some.l) in
    let u = full s (raised_tree c.in-Some.r) in
    let rest = c.pop.new.self.items in
    let qs = pairs (args_full s c.met-left.result.term.base c.in-Arguments.ts.now) (args_full s c.met-right.result.term.base c.in-Arguments.us.now) in
    let h = rw c.in-Arguments.is at (asked at.In_ok-step) in
    let after = after_arguments (left at.In_ok-know) qs h in
    let both = below at.In_ok-know in
    let entailed = opened s c.in-Some.l c.in-Some.r t u qs (waiting s rest) (length rest) (sym (length-waiting s rest)) h refl refl in
    let p = pushed at.In_ok-open_arguments-in-Arguments in
    record {
      left = rw p (left_append c.args.limit qs (waiting s rest) (left_split c.args.limit t u qs h both.0) both.1);
      same = rw p after.unifier;
      inside = rw p after.inside;
      pairs = rw p (c.in_ok-open_arguments-in-Arguments.ensures.known s (qs ++ waiting s rest) entailed (remembered_split s t u qs (waiting s rest) c.know.new.self h (kept at.In_ok-know)));
    }

pub returns-in-Clash : goal.returns-in-Clash
returns-in-Clash c =
    let at = goal.at.returns-in-Clash c in
    record { left = (below at.In_ok-know).1; next = after_clash (left at.In_ok-know) (rw c.in-Clash.is at (asked at.In_ok-step)); pairs = tt }

pub loop-l-preserved-then-branch : goal.loop-l-preserved-then-branch
loop-l-preserved-then-branch c =
    let know = (goal.at.loop-l-preserved-then-branch c).In_ok-know in
    let s = c.args.bindings.now in
    let t = full s (raised_tree c.in-Some.l) in
    let u = full s (raised_tree c.in-Some.r) in
    let rest = waiting s c.pop.new.self.items in
    let known = c.in_ok-know.ensures.kept s (waiting s c.loop-l.equations.items) (few know) c.loop-l.invariant.pairs in
    let same : t ≡ u = c.in_ok-know.ensures.equal c.if-branch.true s (waiting s c.loop-l.equations.items) known in
    record {
      left = (below know).1;
      same = (left know).unifier ∙ unify_equal t u rest same;
      inside = inside_rest (left know);
      pairs = remembered_dropped s t u rest c.know.new.self same (kept know);
    }

pub loop-l-smaller-then-branch : goal.loop-l-smaller-then-branch
loop-l-smaller-then-branch c =
    let s = c.args.bindings.now in
    omega (arith, less_work (full s (raised_tree c.in-Some.l)) (full s (raised_tree c.in-Some.r)) (waiting s c.pop.new.self.items), ap work (first (goal.at.loop-l-smaller-then-branch c).In_ok-know))
