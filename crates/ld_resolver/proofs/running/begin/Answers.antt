use Rattle.std.proofs.Common.{◌≡◌, ◌+◌, ◌≤◌, List, [], length, map, ap, sym, ◌∙◌, subst, arith, rules}
use Rattle.cti_terms.specs.declared.derivation.Goal.{Goal}
use Rattle.cti_terms.specs.declared.atom_list.Atom.{Atom}
use Rattle.cti_terms.specs.Resolve.{raised}
use Rattle.cti_terms.specs.Below.{AtomsBelow}
use Rattle.ld_resolver.specs.Tails.{tail_at}
use Rattle.ld_resolver.specs.Told.{told}
use Rattle.ld_resolver.specs.Measured.{answered_atoms}
use Rattle.ld_resolver.specs.Searches.{attempts_left, goal_with}
use Rattle.ld_resolver.proofs.BuiltinChoices.{begun_wide}
use Rattle.ld_resolver.proofs.ProgressLaws.{IsQueryEntered, SameSearch, same_attempts, no_attempts, query_below, entered_goal, begun_with_atoms, begun_without_atoms}
use Rattle.ld_resolver.proofs.running.begin.Goals.{After-as_slice, In_ok-enter}
use Rattle.ld_resolver.proofs.running.begin.Goals as goal

-- the goal that is entered is the query
query_is : (c : After-as_slice) → goal_with c.args.search.now.bindings (map (raised 0) c.as_slice.result.now) (tail_at c.args.search.now.tails 0) c.args.goal.now.fresh ≡ c.args.goal.now
query_is c = entered_goal c.args.goal.now c.args.search.now.bindings c.args.search.now.tails c.as_slice.result.now c.requires.bindings c.as_slice.ensures

query_entered : (c : In_ok-enter) → IsQueryEntered c.args.search.now c.enter.new.self
query_entered c = record {
  no_bindings = c.requires.bindings;
  no_choices = c.requires.choices;
  search = c.in_ok-enter.ensures.search;
  program = c.enter.ensures.program;
  bindings = c.enter.ensures.bindings;
  depths = c.in_ok-enter.ensures.depths;
}

-- nothing was to be tried before
few_attempts : (c : In_ok-enter) → attempts_left c.enter.new.self ≤ length c.args.search.now.program.now.clauses + 2
few_attempts c =
    let none = no_attempts c.args.search.now c.requires.choices in
    omega (arith, none, c.in_ok-enter.ensures.attempts)

pub enter-requires-clause-below : goal.enter-requires-clause-below
enter-requires-clause-below c =
    let g = c.args.goal.now in
    subst (λ (h : Goal). AtomsBelow g.fresh h.atoms) (sym (query_is (goal.at.enter-requires-clause-below c).After-as_slice)) (query_below c.args.search.now.program.now.preds g.fresh g.atoms c.requires.goal)

pub returns-in-Open : goal.returns-in-Open
returns-in-Open c =
    let at = goal.at.returns-in-Open c in
    let entered = rw (query_is at.After-as_slice, c.in-Open.is) at c.in_ok-enter.ensures.entered in
    record {
      program = search rules;
      attempts = few_attempts at.In_ok-enter;
      begun = λ n. begun_with_atoms (query_entered at.In_ok-enter) c.args.goal.now n entered;
    }

pub returns-in-Wide : goal.returns-in-Wide
returns-in-Wide c =
    let at = goal.at.returns-in-Wide c in
    let entered = rw (query_is at.After-as_slice, c.in-Wide.is) at c.in_ok-enter.ensures.entered in
    record {
      program = search rules;
      attempts = few_attempts at.In_ok-enter;
      begun = λ n. begun_wide c.args.search.now.program.now c.args.goal.now n (entered.0 c.args.goal.now.atoms []) entered.1;
    }

pub returns-in_ok-answer-in-Empty : goal.returns-in_ok-answer-in-Empty
returns-in_ok-answer-in-Empty c =
    let at = goal.at.returns-in_ok-answer-in-Empty c in
    let new = c.enter.new.self in
    let last = c.answer.new.self in
    let entered = rw (query_is at.After-as_slice, c.in-Empty.is) at c.in_ok-enter.ensures.entered in
    let same : SameSearch new last = record { program = c.answer.ensures.program; bindings = c.answer.ensures.bindings; tails = c.answer.ensures.tails; choices = c.answer.ensures.choices } in
    let is_told = c.in_ok-answer-in-Empty.ensures.answer ∙ ap (λ (atoms : List Atom). told (answered_atoms new.bindings atoms)) c.as_slice-in-Empty.ensures in
    record {
      program = search rules;
      attempts = omega (arith, few_attempts at.In_ok-enter, same_attempts new last same);
      begun = λ n. begun_without_atoms (query_entered at.In_ok-enter) c.args.goal.now n c.in_ok-answer-in-Empty.answer entered same is_told;
    }
