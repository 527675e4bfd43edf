use Rattle.std.proofs.Common.{◌<◌, List, arith}
use Rattle.ld_resolver.specs.declared.answer.Answer.{Answer}
use Rattle.ld_resolver.specs.Searches.{IsNode}
use Rattle.ld_resolver.specs.Progress.{IsUnderWay}
use Rattle.ld_resolver.proofs.ProgressLaws.{IsNodeEntered, ended_says, ended_wide, stopped_says, with_atoms, without_atoms, less_to_do}
use Rattle.ld_resolver.proofs.running.advance.Goals.{In-Resolved, In_ok-enter-in-Resolved}
use Rattle.ld_resolver.proofs.running.advance.Goals as goal

-- the node that an attempt found
node_found : (c : In-Resolved) → IsNode c.args.search.now c.in-Resolved.node c.attempt.new.self
node_found c = rw c.in-Resolved.is at c.in_ok-attempt.ensures.attempt

-- it is entered
node_entered : (c : In_ok-enter-in-Resolved) (given : List Answer) → IsUnderWay c.args.search.now.program.now c.args.goal.now c.args.budget c.args.search.now c.args.totals.now.steps c.args.totals.now.longest given
    → IsNodeEntered c.args.search.now.program.now c.args.goal.now c.args.budget c.args.search.now c.attempt.new.self c.enter.new.self c.in-Resolved.node
    c.args.totals.now.steps c.args.totals.now.longest c.max-totals.result given
node_entered c given u = record {
  under_way = u;
  node = rw c.in-Resolved.is at c.in_ok-attempt.ensures.attempt;
  less = omega (arith, u.within, c.if-totals-budget.false);
  longest = omega (arith, c.max-totals.ensures);
  program_mid = c.attempt.ensures.program;
  depths_mid = c.in_ok-attempt.ensures.depths;
  search = c.in_ok-enter-in-Resolved.ensures.search;
  program = c.enter.ensures.program;
  bindings = c.enter.ensures.bindings;
  attempts = c.in_ok-enter-in-Resolved.ensures.attempts;
  depths = c.in_ok-enter-in-Resolved.ensures.depths;
}

pub returns-in-Ended-clause-advanced : goal.returns-in-Ended-clause-advanced
returns-in-Ended-clause-advanced c = λ given u. ended_says u (rw c.in-Ended.is at c.in_ok-attempt.ensures.attempt)

pub returns-in-Failed-clause-advanced : goal.returns-in-Failed-clause-advanced
returns-in-Failed-clause-advanced c = λ given u.
    let g = c.args.goal.now in
    let failed = rw c.in-Failed.is at c.in_ok-attempt.ensures.attempt in (
      record {
        search = c.in_ok-attempt.ensures.search;
        program = c.attempt.ensures.program;
        done = (u.done.0, rw (failed.0 g.atoms c.args.budget) at u.done.1);
        within = u.within;
        begins = u.begins;
        depth = c.in_ok-attempt.ensures.depths c.args.totals.now.steps u.depth;
      },
      (let fewer = failed.1 in omega (arith, fewer)),
    )

pub returns-then-totals-budget-clause-advanced : goal.returns-then-totals-budget-clause-advanced
returns-then-totals-budget-clause-advanced c = λ given u.
    let node = node_found (goal.at.returns-then-totals-budget-clause-advanced c).In-Resolved in
    stopped_says u c.if-totals-budget.true _ _ (node.met c.args.goal.now.atoms c.args.budget)

pub returns-in-Wide-clause-advanced : goal.returns-in-Wide-clause-advanced
returns-in-Wide-clause-advanced c = λ given u.
    let node = node_entered (goal.at.returns-in-Wide-clause-advanced c).In_ok-enter-in-Resolved given u in
    ended_wide node (rw (c.in_ok-fresh-in-Resolved.ensures, c.in-Wide.is) at c.in_ok-enter-in-Resolved.ensures.entered)

pub returns-in-Open-clause-advanced : goal.returns-in-Open-clause-advanced
returns-in-Open-clause-advanced c = λ given u.
    let node = node_entered (goal.at.returns-in-Open-clause-advanced c).In_ok-enter-in-Resolved given u in
    (with_atoms node (rw (c.in_ok-fresh-in-Resolved.ensures, c.in-Open.is) at c.in_ok-enter-in-Resolved.ensures.entered), less_to_do node)

pub returns-in-Empty-clause-advanced : goal.returns-in-Empty-clause-advanced
returns-in-Empty-clause-advanced c = λ given u.
    let node = node_entered (goal.at.returns-in-Empty-clause-advanced c).In_ok-enter-in-Resolved given u in
    (without_atoms node (rw (c.in_ok-fresh-in-Resolved.ensures, c.in-Empty.is) at c.in_ok-enter-in-Resolved.ensures.entered), less_to_do node)

pub attempt-requires-clause-search : goal.attempt-requires-clause-search
attempt-requires-clause-search c = c.requires.under_way.1.search

pub overflow_add-totals : goal.overflow_add-totals
overflow_add-totals c =
    let within = c.requires.under_way.1.within in
    omega (arith, within, c.if-totals-budget.false, c.ranges.budget.fits)

pub overflow_add-depth : goal.overflow_add-depth
overflow_add-depth c =
    let u = c.requires.under_way.1 in
    let bound = (node_found (goal.at.overflow_add-depth c).In-Resolved).within c.args.totals.now.steps u.depth in
    let less : c.args.totals.now.steps < c.args.budget = omega (arith, u.within, c.if-totals-budget.false) in
    omega (arith, bound, less, c.ranges.budget.fits)
