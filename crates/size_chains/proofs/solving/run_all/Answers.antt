use Rattle.std.proofs.Common.{◌≡◌, ◌<◌, ◌∙◌, ◌+◌, ℕ, List, Some, ap, arith, length, refl, slice_get, subst, sym}
use Rattle.termination_model.proofs.Lists.{there}
use Rattle.cti_terms.specs.declared.clauses.Clause.{Clause}
use Rattle.termination_model.specs.chains.Chain.{clauses_of}
use Rattle.component_clauses.specs.Numbered.{with_clauses}
use Rattle.component_clauses.proofs.OwnClauses.{its_clauses}
use Rattle.call_components.specs.Partition.{AreComponents}
use Rattle.cti_terms.specs.Listing.{IsProgram, Listing}
use Rattle.size_chains.specs.Chains.{start_rows}
use Rattle.size_chains.specs.Running.{IsChained, IsRun}
use Rattle.size_chains.specs.Systems.{AreSystems}
use Rattle.size_chains.specs.States.{IsState, every, own_from}
use Rattle.size_chains.proofs.Chaining.{chained_none, chained_more, from_more, weaker}
use Rattle.size_chains.proofs.Repeats.{none_legal}
use Rattle.size_chains.proofs.solving.run_all.Goals as goal

pub loop-c-init : goal.loop-c-init
loop-c-init g c = record {
  state = weaker g.D.Domain.width g.D.Domain.listed (g.S.ClauseSystems.systems c.args.systems.now) every (own_from c.args.comps.now 0) c.program-p.result.now c.in_ok-state.state (λ q o. refl) (subst (λ (x : Listing). IsState g.D.Domain.width g.D.Domain.listed (g.S.ClauseSystems.systems c.args.systems.now) every x c.in_ok-state.state) (sym c.program-p.ensures.same) c.in_ok-state.ensures.state);
  legal = none_legal g.D.Domain.speaks (g.S.ClauseSystems.systems c.args.systems.now) c.program-p.result.now c.in_ok-state.state c.in_ok-state.ensures.steps;
  chained = chained_none g.D.Domain.width g.D.Domain.listed g.D.Domain.speaks (g.S.ClauseSystems.systems c.args.systems.now) c.program-p.result.now c.args.comps.now c.in_ok-state.state (c.in_ok-state.ensures.rows ∙ ap (start_rows (g.S.ClauseSystems.systems c.args.systems.now)) (sym c.program-p.ensures.same)) c.in_ok-state.ensures.steps;
}

pub run_passes-requires-clause-component : goal.run_passes-requires-clause-component
run_passes-requires-clause-component g c =
    its_clauses _ c.in_ok-own.own.items (subst (λ (x : Listing). AreComponents x c.args.comps.now) (sym c.program-p.ensures.same) c.requires) c.in_ok-own.ensures (omega (arith, c.count-c-end.ensures, c.loop-c-test.true, c.loop-c.auto.c-end)) c.index.result.now (sym (c.as_slice.ensures ∙ c.index.ensures))

pub loop-c-preserved : goal.loop-c-preserved
loop-c-preserved g c =
    let below : c.loop-c.c < length c.in_ok-own.own.items = omega (arith, c.in_ok-own.ensures.each, c.count-c-end.ensures, c.loop-c-test.true, c.loop-c.auto.c-end) in
    let at : slice_get c.in_ok-own.own.items c.loop-c.c ≡ Some c.index.result.now = there c.in_ok-own.own.items c.loop-c.c c.index.result.now below ∙ ap Some (sym c.index.ensures) in
    let own : with_clauses c.program-p.result.now.clauses c.as_slice.result.now ≡ clauses_of c.program-p.result.now c.args.comps.now c.loop-c.c =
    ap (with_clauses c.program-p.result.now.clauses) c.as_slice.ensures ∙ c.in_ok-own.ensures.clauses c.loop-c.c c.index.result.now at in
    let run = subst (λ (ks : List (ℕ × Clause)). IsRun g.D.Domain.width g.D.Domain.listed g.D.Domain.speaks (g.S.ClauseSystems.systems c.args.systems.now) ks c.loop-c.state c.run_passes.new.self) own c.in_ok-run_passes.ensures.run in
    record {
      state = weaker g.D.Domain.width g.D.Domain.listed (g.S.ClauseSystems.systems c.args.systems.now) (own_from c.args.comps.now c.loop-c.c) (own_from c.args.comps.now (c.loop-c.c + 1)) c.program-p.result.now c.run_passes.new.self (λ q o. from_more c.args.comps.now c.loop-c.c q o) c.in_ok-run_passes.ensures.state;
      legal = c.in_ok-run_passes.ensures.legal;
      chained = chained_more g.D.Domain.width g.D.Domain.listed g.D.Domain.speaks (g.S.ClauseSystems.systems c.args.systems.now) c.program-p.result.now c.args.comps.now (subst (λ (x : Listing). IsProgram x) (sym c.program-p.ensures.same) c.program-p.ensures.sound) (subst (λ (x : Listing). AreComponents x c.args.comps.now) (sym c.program-p.ensures.same) c.requires) (subst (λ (x : Listing). AreSystems x (g.S.ClauseSystems.systems c.args.systems.now)) (sym c.program-p.ensures.same) c.program-p.ensures.lawful) c.loop-c.c c.loop-c.state c.run_passes.new.self
          c.loop-c.invariant.chained run g.met.D.Domain.laws.1 g.met.D.Domain.laws.2 c.in_ok-run_passes.ensures.state;
    }

pub returns-clause-state : goal.returns-clause-state
returns-clause-state g c =
    let e : c.loop-c.c ≡ length c.args.comps.now.members = omega (arith, c.count-c-end.ensures, c.loop-c-test.false, c.loop-c.auto.c-end) in
    subst (λ (x : Listing). IsState g.D.Domain.width g.D.Domain.listed (g.S.ClauseSystems.systems c.args.systems.now) (own_from c.args.comps.now (length c.args.comps.now.members)) x c.loop-c.state) c.program-p.ensures.same
    (subst (λ (n : ℕ). IsState g.D.Domain.width g.D.Domain.listed (g.S.ClauseSystems.systems c.args.systems.now) (own_from c.args.comps.now n) c.program-p.result.now c.loop-c.state) e c.loop-c.invariant.state)

pub returns-clause-chained : goal.returns-clause-chained
returns-clause-chained g c =
    let e : c.loop-c.c ≡ length c.args.comps.now.members = omega (arith, c.count-c-end.ensures, c.loop-c-test.false, c.loop-c.auto.c-end) in
    subst (λ (x : Listing). IsChained g.D.Domain.width g.D.Domain.listed g.D.Domain.speaks (g.S.ClauseSystems.systems c.args.systems.now) x c.args.comps.now (length c.args.comps.now.members) c.loop-c.state) c.program-p.ensures.same
    (subst (λ (n : ℕ). IsChained g.D.Domain.width g.D.Domain.listed g.D.Domain.speaks (g.S.ClauseSystems.systems c.args.systems.now) c.program-p.result.now c.args.comps.now n c.loop-c.state) e c.loop-c.invariant.chained)
