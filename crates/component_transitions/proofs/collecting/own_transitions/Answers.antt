use Rattle.std.proofs.Common.{◌≡◌, ◌≤◌, ◌-◌, ◌+◌, ◌++◌, ℕ, List, length, map, take, refl, slice_index_or, ap, sym, subst, ◌∙◌, arith}
use Rattle.call_components.specs.Partition.{IsIn}
use Rattle.cti_terms.specs.declared.clauses.Clause.{Clause}
use Rattle.component_clauses.specs.Numbered.{with_clauses}
use Rattle.component_clauses.proofs.OwnClauses.{next_own, own_at, take_past}
use Rattle.linear_rows.specs.Members.{In}
use Rattle.number_tests.specs.Refuting.{clause_or_none}
use Rattle.termination_model.proofs.ChainLeaves.{of_own}
use Rattle.termination_model.proofs.Lists.{by_places, there}
use Rattle.component_transitions.specs.OwnTransitions.{numbers_of_call}
use Rattle.level_systems.specs.Pairs.{calls_from, clause_at}
use Rattle.level_systems.proofs.OwnPairs.{pairs_are, pairs_in, pairs_more}
use Rattle.level_systems.proofs.PairLists.{is_own, pair_there}
use Rattle.component_transitions.proofs.collecting.own_transitions.Goals as goal

pub add_calls-requires-clause-inside : goal.add_calls-requires-clause-inside
add_calls-requires-clause-inside g c =
    let own = c.args.own.now in
    let p = own.program.now in
    let j = c.loop-k.k-index in
    let next = next_own p.clauses own.clauses.now j c.loop-k-test.true c.requires.clauses.within in
    let k = slice_index_or own.clauses.now j 0 in
    let same : clause_at p k ≡ next.clause = ap clause_or_none next.at in
    let inside = (of_own p own.comps.now c.preds.ensures.sound c.requires.clauses.components own.number (k, next.clause) (own_at p own.comps.now own.number own.clauses.now c.requires.clauses.clauses_are j k next.clause (there own.clauses.now j 0 c.loop-k-test.true) next.at)).1 in
    subst (λ (x : Clause). IsIn own.comps.now own.number x.head.pred.0) (sym same) inside

pub loop-k-preserved : goal.loop-k-preserved
loop-k-preserved g c =
    let own = c.args.own.now in
    let p = own.program.now in
    let j = c.loop-k.k-index in
    let next = next_own p.clauses own.clauses.now j c.loop-k-test.true c.requires.clauses.within in
    let k = slice_index_or own.clauses.now j 0 in
    let same : clause_at p k ≡ next.clause = ap clause_or_none next.at in
    let before = map numbers_of_call c.loop-k.calls.items in
    record {
      pairs =
          c.in_ok-add_calls.ensures.pairs c.if-not-branch.false
          ∙ ap (λ (x : Clause). before ++ calls_from own.comps.now own.number k 0 x.body) same
          ∙ ap (λ (s : List (ℕ × ℕ)). s ++ calls_from own.comps.now own.number k 0 next.clause.body) c.loop-k.invariant.pairs
          ∙ sym (pairs_more own.comps.now own.number (with_clauses p.clauses (take j own.clauses.now)) (k, next.clause))
          ∙ ap (pairs_in own.comps.now own.number) (sym next.more);
      held = c.in_ok-add_calls.ensures.held;
    }

pub returns-then-not-branch-clause-given_up : goal.returns-then-not-branch-clause-given_up
returns-then-not-branch-clause-given_up g c = λ _.
    let own = c.args.own.now in
    let p = own.program.now in
    let j = c.loop-k.k-index in
    let next = next_own p.clauses own.clauses.now j c.loop-k-test.true c.requires.clauses.within in
    let k = slice_index_or own.clauses.now j 0 in
    let same : clause_at p k ≡ next.clause = ap clause_or_none next.at in
    let inside = (of_own p own.comps.now c.preds.ensures.sound c.requires.clauses.components own.number (k, next.clause) (own_at p own.comps.now own.number own.clauses.now c.requires.clauses.clauses_are j k next.clause (there own.clauses.now j 0 c.loop-k-test.true) next.at)).1 in
    let given = c.in_ok-add_calls.ensures.given_up c.if-not-branch.true in
    let first = (by_places (λ (n : ℕ). (1 ≤ n) × (n ≤ length p.clauses)) own.clauses.now c.requires.clauses.within j k (there own.clauses.now j 0 c.loop-k-test.true)).0 in
    let number : k ≡ 0 + (k - 1) + 1 = omega (arith, first) in
    let listed : In given.0 (calls_from own.comps.now own.number (0 + (k - 1) + 1) 0 next.clause.body) =
    subst (λ (n : ℕ). In given.0 (calls_from own.comps.now own.number n 0 next.clause.body)) number (subst (λ (x : Clause). In given.0 (calls_from own.comps.now own.number k 0 x.body)) same given.1) in
    (given.0, pair_there own.comps.now own.number 0 (k - 1) next.clause p.clauses given.0 next.at (is_own own.comps.now own.number next.clause.head.pred.0 own.number inside refl) listed, given.2)

pub returns-clause-pairs : goal.returns-clause-pairs
returns-clause-pairs g c =
    let own = c.args.own.now in
    let p = own.program.now in
    c.loop-k.invariant.pairs
    ∙ ap (λ (ks : List ℕ). pairs_in own.comps.now own.number (with_clauses p.clauses ks)) (take_past own.clauses.now c.loop-k.k-index (omega (arith, c.loop-k-test.false)))
    ∙ ap (pairs_in own.comps.now own.number) c.requires.clauses.clauses_are
    ∙ pairs_are own.comps.now own.number c.requires.clauses.inner p
