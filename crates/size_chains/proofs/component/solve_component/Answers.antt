use Rattle.std.proofs.Common.{◌≡◌, ◌<◌, ◌∙◌, ℕ, ℤ, List, Some, ap, arith, length, refl, slice_get, subst, sym, if◌then◌else◌}
use Rattle.cti_terms.specs.declared.clauses.Clause.{Clause}
use Rattle.termination_model.specs.chains.Chain.{clauses_of}
use Rattle.termination_model.specs.sizes.Sizes.{rows_of}
use Rattle.termination_model.proofs.Lists.{there}
use Rattle.termination_model.specs.chains.Runs.{is_before}
use Rattle.component_clauses.specs.Numbered.{with_clauses}
use Rattle.component_clauses.proofs.OwnClauses.{its_clauses}
use Rattle.call_components.specs.Partition.{AreComponents}
use Rattle.cti_terms.specs.Listing.{IsProgram, Listing}
use Rattle.size_chains.specs.Chains.{start_rows}
use Rattle.size_chains.specs.Parts.{IsPartOf}
use Rattle.size_chains.specs.Running.{IsRun}
use Rattle.size_chains.specs.States.{IsState, own_from}
use Rattle.size_chains.specs.Systems.{AreSystems}
use Rattle.size_chains.specs.declared.state.State.{State}
use Rattle.size_chains.proofs.Below.{part_of, put_state}
use Rattle.size_chains.proofs.Repeats.{none_legal}
use Rattle.size_chains.proofs.component.solve_component.Goals as goal

pub run_passes-requires-clause-component : goal.run_passes-requires-clause-component
run_passes-requires-clause-component g c = its_clauses _ c.in_ok-own.own.items (subst (λ (x : Listing). AreComponents x c.args.comps.now) (sym c.program-p.ensures.same) c.requires.components) c.in_ok-own.ensures c.requires.inner c.index.result.now (sym (c.as_slice.ensures ∙ c.index.ensures))

pub run_passes-requires-clause-state : goal.run_passes-requires-clause-state
run_passes-requires-clause-state g c =
    let old : State g.row.D.Denot =
    record { sizes = record { rows = c.put_below.new.rows; proofs = c.in_ok-state.state.sizes.proofs }; values = c.in_ok-state.state.values; proofs = c.in_ok-state.state.proofs; steps = c.in_ok-state.state.steps; latest = c.in_ok-state.state.latest } in
    subst (λ (x : Listing). IsState g.D.Domain.width g.D.Domain.listed (g.S.ClauseSystems.systems c.args.systems.now) (own_from c.args.comps.now c.args.c) x old) (sym c.program-p.ensures.same)
    (put_state g.D.Domain.width g.D.Domain.listed (g.S.ClauseSystems.systems c.args.systems.now) (g.S.ClauseSystems.listing c.args.systems.now) c.args.comps.now c.args.c (rows_of c.args.below.now.rows) c.in_ok-state.state old c.in_ok-state.ensures.state refl refl
    c.in_ok-put_below.ensures.sizes c.in_ok-put_below.ensures.rows)

pub run_passes-requires-clause-legal : goal.run_passes-requires-clause-legal
run_passes-requires-clause-legal g c =
    let old : State g.row.D.Denot =
    record { sizes = record { rows = c.put_below.new.rows; proofs = c.in_ok-state.state.sizes.proofs }; values = c.in_ok-state.state.values; proofs = c.in_ok-state.state.proofs; steps = c.in_ok-state.state.steps; latest = c.in_ok-state.state.latest } in
    none_legal g.D.Domain.speaks (g.S.ClauseSystems.systems c.args.systems.now) c.program-p.result.now old c.in_ok-state.ensures.steps

pub returns : goal.returns
returns g c =
    let below : c.args.c < length c.in_ok-own.own.items = omega (arith, c.in_ok-own.ensures.each, c.requires.inner) in
    let list : slice_get c.in_ok-own.own.items c.args.c ≡ Some c.index.result.now = there c.in_ok-own.own.items c.args.c c.index.result.now below ∙ ap Some (sym c.index.ensures) in
    let own : with_clauses c.program-p.result.now.clauses c.as_slice.result.now ≡ clauses_of c.program-p.result.now c.args.comps.now c.args.c =
    ap (with_clauses c.program-p.result.now.clauses) c.as_slice.ensures ∙ c.in_ok-own.ensures.clauses c.args.c c.index.result.now list in
    let start = c.in_ok-state.ensures.rows ∙ ap (start_rows (g.S.ClauseSystems.systems c.args.systems.now)) (sym c.program-p.ensures.same) in
    let old : State g.row.D.Denot =
    record { sizes = record { rows = c.put_below.new.rows; proofs = c.in_ok-state.state.sizes.proofs }; values = c.in_ok-state.state.values; proofs = c.in_ok-state.state.proofs; steps = c.in_ok-state.state.steps; latest = c.in_ok-state.state.latest } in
    subst (λ (x : Listing). IsPartOf g.D.Domain.speaks (g.S.ClauseSystems.systems c.args.systems.now) x c.args.comps.now c.args.c (rows_of c.args.below.now.rows) c.into_chain.result) c.program-p.ensures.same
    (part_of g.D.Domain.width g.D.Domain.listed g.D.Domain.speaks (g.S.ClauseSystems.systems c.args.systems.now) c.program-p.result.now c.args.comps.now (subst (λ (x : Listing). IsProgram x) (sym c.program-p.ensures.same) c.program-p.ensures.sound) (subst (λ (x : Listing). AreComponents x c.args.comps.now) (sym c.program-p.ensures.same) c.requires.components) (subst (λ (x : Listing). AreSystems x (g.S.ClauseSystems.systems c.args.systems.now)) (sym c.program-p.ensures.same) c.program-p.ensures.lawful)
    g.met.D.Domain.laws.1 g.met.D.Domain.laws.2 c.args.c (rows_of c.args.below.now.rows) old c.run_passes.new.self
    (subst (λ (ks : List (ℕ × Clause)). IsRun g.D.Domain.width g.D.Domain.listed g.D.Domain.speaks (g.S.ClauseSystems.systems c.args.systems.now) ks old c.run_passes.new.self) own c.in_ok-run_passes.ensures.run)
    c.in_ok-run_passes.ensures.state
    (λ i q. (c.in_ok-put_below.ensures.rows q ∙ ap (λ (f : ℕ → List (List ℤ)). if is_before c.args.c (slice_get c.args.comps.now.of q) then rows_of c.args.below.now.rows q else f q) start) i)
    c.in_ok-state.ensures.steps c.into_chain.result c.into_chain.ensures.rows c.into_chain.ensures.proofs c.into_chain.ensures.steps)
