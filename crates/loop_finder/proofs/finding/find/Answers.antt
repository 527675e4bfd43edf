use Rattle.std.proofs.Common.{◌≡◌, ◌-◌, ℕ, List, length, take, drop, ap, arith}
use Rattle.cti_terms.specs.Derive.{Bounded}
use Rattle.loop_finder.specs.ClauseNodes.{clause_nodes}
use Rattle.loop_finder.specs.declared.search.Under.TheVariants.{Cycle}
use Rattle.cti_terms.specs.Lifts.{left_after}
use Rattle.loop_finder.specs.Looking.{IsFound, IsUnder}
use Rattle.loop_finder.specs.Loop.{GoesOn}
use Rattle.loop_finder.proofs.FindLaws.{loop_looked, if_loop}
use Rattle.loop_finder.proofs.GoesOn.{loop_goes_on, not_bounded}
use Rattle.loop_finder.proofs.SearchLaws.{start_is_path, going_on_none}
use Rattle.loop_finder.proofs.finding.find.Goals.{In_ok-look_under}
use Rattle.loop_finder.proofs.finding.find.Goals as goal

-- what is found under the goal
module _ (c : In_ok-look_under) where
  found : let p = c.args.program.now in let g = c.args.goal.now in IsUnder p g 100000 (clause_nodes p c.args.depth g) c.in_ok-path.path 0 c.in_ok-look_under.field-0 c.look_under.new.path c.look_under.new.effort.looked
  found =
      let p = c.args.program.now in
      let g = c.args.goal.now in
      let start = c.in_ok-path.path in
      let path = start_is_path p g start.numbers.items start.goals.items c.in_ok-path.ensures.numbers c.in_ok-path.ensures.goals in
      let left = ap (left_after p g) c.in_ok-path.ensures.numbers in
      rw (going_on_none start.numbers.items (clause_nodes p c.args.depth g) c.in_ok-path.ensures.numbers) at (c.in_ok-look_under.ensures.under g g path left)

  -- where it is a cycle
  module _ (start : ℕ) (is : c.in_ok-look_under.field-0 ≡ Cycle start) where
    found_loop : let p = c.args.program.now in let g = c.args.goal.now in IsFound p g 100000 (clause_nodes p c.args.depth g) start c.look_under.new.path.numbers.items
    found_loop = rw is at found

    goes_on : GoesOn c.args.program.now c.args.goal.now (take start c.look_under.new.path.numbers.items) (drop start c.look_under.new.path.numbers.items)
    goes_on =
        let numbers = c.look_under.new.path.numbers.items in
        loop_goes_on c.args.program.now c.args.goal.now (take start numbers) (drop start numbers) c.clauses-count.ensures.sound c.requires.goal found_loop.first.loop

pub look_under-requires-clause-path : goal.look_under-requires-clause-path
look_under-requires-clause-path c =
    let start = c.in_ok-path.path in
    record {
      program = c.clauses-count.ensures.sound;
      from = c.args.goal.now;
      goal = c.requires.goal;
      is = start_is_path c.args.program.now c.args.goal.now start.numbers.items start.goals.items c.in_ok-path.ensures.numbers c.in_ok-path.ensures.goals;
    }

pub returns-in-Nothing-clause-looked : goal.returns-in-Nothing-clause-looked
returns-in-Nothing-clause-looked c =
    let count : c.look_under.new.effort.looked - 0 ≡ c.look_under.new.effort.looked = omega arith in
    let nothing = rw c.in-Nothing.is at (found (goal.at.returns-in-Nothing-clause-looked c).In_ok-look_under) in
    rw count at nothing.without

pub loop_of-requires : goal.loop_of-requires
loop_of-requires c =
    let loop = found_loop (goal.at.loop_of-requires c).In_ok-look_under c.in-Cycle.start c.in-Cycle.is in
    omega (arith, loop.within, ap (λ (l : List ℕ). length l) c.as_slice.ensures.value)

pub returns-in-Cycle-clause-looked : goal.returns-in-Cycle-clause-looked
returns-in-Cycle-clause-looked c =
    let p = c.args.program.now in
    let g = c.args.goal.now in
    let start = c.in-Cycle.start in
    let numbers = c.look_under.new.path.numbers.items in
    let loop = found_loop (goal.at.returns-in-Cycle-clause-looked c).In_ok-look_under start c.in-Cycle.is in
    loop_looked p g (clause_nodes p c.args.depth g) (take start numbers) (drop start numbers) c.in_ok-found-in-Cycle.found (rw c.as_slice.ensures.value at c.in_ok-found-in-Cycle.ensures) loop.first

pub returns-in-Cycle-clause-goes_on : goal.returns-in-Cycle-clause-goes_on
returns-in-Cycle-clause-goes_on c =
    let start = c.in-Cycle.start in
    let numbers = c.look_under.new.path.numbers.items in
    let on = goes_on (goal.at.returns-in-Cycle-clause-goes_on c).In_ok-look_under start c.in-Cycle.is in
    if_loop (GoesOn c.args.program.now c.args.goal.now) (take start numbers) (drop start numbers) c.in_ok-found-in-Cycle.found (rw c.as_slice.ensures.value at c.in_ok-found-in-Cycle.ensures) on

pub returns-in-Cycle-clause-unbounded : goal.returns-in-Cycle-clause-unbounded
returns-in-Cycle-clause-unbounded c =
    let p = c.args.program.now in
    let g = c.args.goal.now in
    let start = c.in-Cycle.start in
    let numbers = c.look_under.new.path.numbers.items in
    let call = (goal.at.returns-in-Cycle-clause-unbounded c).In_ok-look_under in
    let loop = found_loop call start c.in-Cycle.is in
    let bounded = not_bounded p g (take start numbers) (drop start numbers) loop.first.loop.cycle (goes_on call start c.in-Cycle.is) in
    if_loop (λ before cycle. Bounded p g → ⊥) (take start numbers) (drop start numbers) c.in_ok-found-in-Cycle.found (rw c.as_slice.ensures.value at c.in_ok-found-in-Cycle.ensures) bounded

pub returns-clause-looked : goal.returns-clause-looked
returns-clause-looked c = rw c.in-Enough.is at (found (goal.at.returns-clause-looked c).In_ok-look_under)
