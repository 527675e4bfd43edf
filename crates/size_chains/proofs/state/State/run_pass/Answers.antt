use Rattle.std.proofs.Common.{◌+◌, ◌||◌, ◌∷◌, [], ◌++◌, ℕ, List, take, subst, sym, slice_index_or}
use Rattle.cti_terms.specs.declared.clauses.Clause.{Clause}
use Rattle.termination_model.proofs.Lists.{there}
use Rattle.component_clauses.specs.Numbered.{with_clauses}
use Rattle.size_chains.specs.Running.{IsPassed}
use Rattle.size_chains.proofs.Chaining.{own_head}
use Rattle.component_clauses.proofs.OwnClauses.{next_own}
use Rattle.size_chains.proofs.Passes.{numbered_with}
use Rattle.size_chains.proofs.Passes.{AreNumbered, passed_none, passed_more}
use Rattle.size_chains.proofs.Repeats.{legal_more}
use Rattle.size_chains.proofs.state.State.run_pass.Goals as goal

pub run_step-requires-clause-head : goal.run_step-requires-clause-head
run_step-requires-clause-head g c = λ x.
    let own = c.args.own.now in
    let j = c.loop-k.k-index in
    own_head own.program.now own.comps.now c.clauses-program.ensures.sound c.requires.component.components own.number own.clauses.now c.requires.component.clauses_are j (slice_index_or own.clauses.now j 0) x (there own.clauses.now j 0 c.loop-k-test.true)

pub loop-k-init : goal.loop-k-init
loop-k-init g c = record { state = c.requires.state; legal = c.requires.legal; passed = passed_none g.D.Domain.width g.D.Domain.listed g.D.Domain.speaks (g.S.ClauseSystems.systems c.args.systems.now) c.args.number c.args.self.now }

pub loop-k-preserved : goal.loop-k-preserved
loop-k-preserved g c =
    let clauses = c.args.own.now.program.now.clauses in
    let own = c.args.own.now.clauses.now in
    let j = c.loop-k.k-index in
    let width = g.D.Domain.width in
    let listed = g.D.Domain.listed in
    let speaks = g.D.Domain.speaks in
    let e = g.S.ClauseSystems.systems c.args.systems.now in
    let next = next_own clauses own j c.loop-k-test.true c.requires.component.within in
    let ks = with_clauses clauses (take j own) in
    let k : ℕ × Clause = (slice_index_or own j 0, next.clause) in
    let numbered : AreNumbered clauses (ks ++ k ∷ []) = subst (AreNumbered clauses) next.more (numbered_with clauses (take (j + 1) own)) in
    let passed = passed_more width listed speaks e c.args.number ks k c.args.self.now c.loop-k.self c.run_step.new.self c.loop-k.changed c.in_ok-more.more
    c.loop-k.invariant.passed (c.in_ok-more.ensures.taken next.clause next.at).0 clauses numbered c.loop-k.invariant.state.proofs in
    record {
      state = c.in_ok-more.ensures.state;
      legal = legal_more width listed speaks e c.args.own.now.program.now c.args.number k c.loop-k.self c.run_step.new.self c.in_ok-more.more (c.in_ok-more.ensures.taken next.clause next.at).0 (c.in_ok-more.ensures.taken next.clause next.at).1 next.at c.loop-k.invariant.legal;
      passed = subst (λ (xs : List (ℕ × Clause)). IsPassed width listed speaks e c.args.number xs c.args.self.now c.run_step.new.self (c.loop-k.changed || c.in_ok-more.more)) (sym next.more) passed;
    }
