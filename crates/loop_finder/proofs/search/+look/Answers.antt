use Rattle.std.proofs.Common.{◌≡◌, ◌+◌, ◌-◌, ◌<◌, ℕ, length, Some, sym, ◌∙◌, arith}
use Rattle.std.specs.Prelude.{take, drop}
use Rattle.cti_terms.specs.declared.derivation.Goal.{Goal}
use Rattle.loop_finder.specs.Looking.{IsUnder}
use Rattle.loop_finder.specs.Paths.{IsPath, IsCycleAt}
use Rattle.cti_terms.specs.Lifts.{left_after}
use Rattle.loop_finder.proofs.SearchLaws.{IsPushed, last_below, at_cycle, at_found, at_stopped, at_nothing, pushed_path, pushed_left, path_left, first_at, stopped_at, nothing_at, given_at, all_given, leaves_some}
use Rattle.loop_finder.proofs.search.+look.Goals.{look_at-In_ok-push, look_at-In-None-2, look_under-In_ok-look_at}
use Rattle.loop_finder.proofs.search.+look.Goals as goal

-- the step of the clause is put on the path
module _ (t : ℕ) (c : look_at-In_ok-push t) where
  pushed : IsPushed c.args.program.now c.args.path.now.numbers.items c.args.path.now.goals.items c.last.result.now c.in-Some.goal c.args.number c.push.new.self.numbers.items c.push.new.self.goals.items
  pushed = record {
    last = c.last.ensures;
    step = sym c.in-Some.is ∙ c.in_ok-goal.ensures;
    first = c.requires.first;
    numbers = c.in_ok-push.ensures.numbers;
    goals = c.in_ok-push.ensures.goals;
  }

  fewer : c.args.effort.now.looked < 100000
  fewer = omega (arith, c.requires.looked, c.if-effort-eq-MOST_DERIVATIONS.false)

no_cycle : (t : ℕ) (c : look_at-In-None-2 t) → (i : ℕ) → IsCycleAt c.push.new.self.goals.items i → ⊥
no_cycle t c = rw c.as_slice.ensures.value at (rw c.in-None-2.is at c.in_ok-start.ensures)

pub look_at-left_by_step-requires-clause-below : goal.look_at-left_by_step-requires-clause-below
look_at-left_by_step-requires-clause-below t c =
    let q = c.requires.path in
    last_below c.args.program.now q.from c.args.path.now.numbers.items c.args.path.now.goals.items c.last.result.now q.program q.goal q.is c.last.ensures

pub look_at-returns-in-Some-2 : goal.look_at-returns-in-Some-2
look_at-returns-in-Some-2 t c = record {
  under = λ g h path left.
      let at = (goal.at.look_at-returns-in-Some-2 t c).In_ok-push in
      let here = rw c.as_slice.ensures.value at (rw c.in-Some-2.is at c.in_ok-start.ensures) in
      let new = pushed_path (pushed t at) path left in
      record {
        within = omega (arith, new.count, here.0.count, here.0.inner);
        first = at_cycle (pushed t at) path left c.args.steps c.args.effort.now.looked (fewer t at) c.in-Some-2.start here.0 here.1;
      };
}

pub look_at-look_under-requires : goal.look_at-look_under-requires
look_at-look_under-requires t c =
    let at = (goal.at.look_at-look_under-requires t c).In_ok-push in
    let q = c.requires.path in
    let left = path_left c.args.program.now q.from c.args.path.now.numbers.items c.args.path.now.goals.items c.last.result.now q.is c.last.ensures in
    let d = c.decreases in
    (omega (arith, d), (record { program = q.program; from = q.from; goal = q.goal; is = pushed_path (pushed t at) q.is left }, omega (arith, fewer t at)))

pub look_at-returns-in-Nothing : goal.look_at-returns-in-Nothing
look_at-returns-in-Nothing t c = record {
  under = λ g h path left.
      let at = goal.at.look_at-returns-in-Nothing t c in
      let new = pushed t at.In_ok-push in
      let under = rw c.in-Nothing.is at (c.in_ok-look_under.ensures.under g c.in-Some.goal (pushed_path new path left) (pushed_left new path left)) in
      record {
        numbers = c.pop.ensures.numbers c.args.path.now.numbers.items c.args.number (under.numbers ∙ new.numbers);
        goals = c.pop.ensures.goals c.args.path.now.goals.items c.in-Some.goal (under.goals ∙ new.goals);
        more = omega (arith, under.more);
        most = under.most;
        without = at_nothing new path left c.args.steps c.args.effort.now.looked (fewer t at.In_ok-push) (no_cycle t at.In-None-2) c.look_under.new.effort.looked under.more under.without;
      };
}

pub look_at-returns-in-Cycle : goal.look_at-returns-in-Cycle
look_at-returns-in-Cycle t c = record {
  under = λ g h path left.
      let at = goal.at.look_at-returns-in-Cycle t c in
      let new = pushed t at.In_ok-push in
      let under = rw c.in-Cycle.is at (c.in_ok-look_under.ensures.under g c.in-Some.goal (pushed_path new path left) (pushed_left new path left)) in
      let numbers = c.look_under.new.path.numbers.items in
      record {
        within = under.within;
        first = at_found new path left c.args.steps c.args.effort.now.looked (fewer t at.In_ok-push) (no_cycle t at.In-None-2) (take c.in-Cycle.start numbers) (drop c.in-Cycle.start numbers) under.first;
      };
}

pub look_at-returns-in-Enough : goal.look_at-returns-in-Enough
look_at-returns-in-Enough t c = record {
  under = λ g h path left.
      let at = goal.at.look_at-returns-in-Enough t c in
      let new = pushed t at.In_ok-push in
      let under = rw c.in-Enough.is at (c.in_ok-look_under.ensures.under g c.in-Some.goal (pushed_path new path left) (pushed_left new path left)) in
      at_stopped new path left c.args.steps c.args.effort.now.looked (fewer t at.In_ok-push) (no_cycle t at.In-None-2) under;
}

-- what a clause gives
module _ (t : ℕ) (c : look_under-In_ok-look_at t) where
  within : c.loop-k.k < length c.args.program.now.clauses
  within = omega (arith, c.loop-k-test.true, c.clauses-k-end.ensures.count)

  left_over : 100000 - c.loop-k.effort.looked ≡ (100000 - c.args.effort.now.looked) - (c.loop-k.effort.looked - c.args.effort.now.looked)
  left_over = omega (arith, c.loop-k.invariant.more, c.loop-k.invariant.most)

  found : (g h : Goal) → IsPath c.args.program.now g c.args.path.now.numbers.items c.args.path.now.goals.items → left_after c.args.program.now g c.args.path.now.numbers.items ≡ Some h
      → IsUnder c.args.program.now g (100000 - c.loop-k.effort.looked) (given_at c.args.program.now c.args.path.now.numbers.items (c.args.steps - 1) h (c.loop-k.k + 1)) c.loop-k.path c.loop-k.effort.looked c.in_ok-look_at.field-0 c.look_at.new.path c.look_at.new.effort.looked
  found g h path left =
      let inv = c.loop-k.invariant in
      rw (← inv.numbers) (c.in_ok-look_at.ensures.under g h (rw (inv.numbers, inv.goals) path) (rw inv.numbers left))

pub look_under-returns-in-Cycle : goal.look_under-returns-in-Cycle
look_under-returns-in-Cycle t c = record {
  under = λ g h path left.
      let at = (goal.at.look_under-returns-in-Cycle t c).In_ok-look_at in
      let a = c.args.effort.now.looked in
      let b = c.loop-k.effort.looked in
      let numbers = c.look_at.new.path.numbers.items in
      let under = rw c.in-Cycle.is at (found t at g h path left) in
      record {
        within = under.within;
        first = first_at c.args.program.now g c.args.path.now.numbers.items (c.args.steps - 1) c.args.steps h c.loop-k.k (100000 - a) (b - a) (100000 - b) (omega (arith, c.if-steps-eq0.false)) (within t at)
            (c.loop-k.invariant.without g h path left) (left_over t at) (take c.in-Cycle.start numbers) (drop c.in-Cycle.start numbers) under.first;
      };
}

pub look_under-returns-in-Enough : goal.look_under-returns-in-Enough
look_under-returns-in-Enough t c = record {
  under = λ g h path left.
      let at = (goal.at.look_under-returns-in-Enough t c).In_ok-look_at in
      let a = c.args.effort.now.looked in
      let b = c.loop-k.effort.looked in
      stopped_at c.args.program.now g c.args.path.now.numbers.items (c.args.steps - 1) c.args.steps h c.loop-k.k (100000 - a) (b - a) (100000 - b) (omega (arith, c.if-steps-eq0.false)) (within t at)
      (c.loop-k.invariant.without g h path left) (left_over t at) (rw c.in-Enough.is at (found t at g h path left));
}

pub look_under-loop-k-preserved : goal.look_under-loop-k-preserved
look_under-loop-k-preserved t c =
    let at = (goal.at.look_under-loop-k-preserved t c).In_ok-look_at in
    let q = c.requires.path in
    let p = c.args.program.now in
    let ns = c.args.path.now.numbers.items in
    let a = c.args.effort.now.looked in
    let b = c.loop-k.effort.looked in
    let new = c.look_at.new.effort.looked in
    let inv = c.loop-k.invariant in
    let end = leaves_some p q.from ns c.args.path.now.goals.items q.is in
    let some = rw c.in-Nothing.is at (found t at q.from end.0 q.is end.1) in
    record {
      numbers = some.numbers ∙ inv.numbers;
      goals = some.goals ∙ inv.goals;
      more = omega (arith, inv.more, some.more);
      most = some.most;
      without = λ g h path left.
          let under = rw c.in-Nothing.is at (found t at g h path left) in
          let count : (b - a) + (new - b) ≡ new - a = omega (arith, inv.more, some.more) in
          rw count at (nothing_at p g ns (c.args.steps - 1) h c.loop-k.k (100000 - a) (b - a) (100000 - b) (new - b) (inv.without g h path left) (left_over t at) under.without);
    }

pub look_under-returns : goal.look_under-returns
look_under-returns t c = record {
  under = λ g h path left.
      let inv = c.loop-k.invariant in
      let end : c.loop-k.k ≡ length c.args.program.now.clauses = omega (arith, c.loop-k-test.false, c.clauses-k-end.ensures.count, c.loop-k.auto.k-end) in
      let whole = all_given c.args.program.now c.args.path.now.numbers.items (c.args.steps - 1) c.args.steps h c.loop-k.k (omega (arith, c.if-steps-eq0.false)) end in
      record { numbers = inv.numbers; goals = inv.goals; more = inv.more; most = inv.most; without = rw whole at (inv.without g h path left) };
}
