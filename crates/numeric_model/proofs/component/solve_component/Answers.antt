use Rattle.std.proofs.Common.{◌≡◌, ◌<◌, ◌∙◌, ℕ, ℤ, List, Some, ap, arith, length, refl, slice_get, subst, sym, if◌then◌else◌}
use Rattle.cti_terms.specs.declared.clauses.Clause.{Clause}
use Rattle.termination_model.specs.chains.Chain.{clauses_of}
use Rattle.termination_model.specs.sizes.Sizes.{rows_of}
use Rattle.termination_model.proofs.Lists.{there}
use Rattle.termination_model.specs.chains.Runs.{is_before}
use Rattle.component_clauses.specs.Numbered.{with_clauses}
use Rattle.component_clauses.proofs.OwnClauses.{its_clauses}
use Rattle.numeric_model.specs.Running.{IsRun}
use Rattle.numeric_model.specs.declared.state.State.{State}
use Rattle.numeric_model.proofs.Below.{part_of, put_state}
use Rattle.numeric_model.proofs.Repeats.{none_legal}
use Rattle.numeric_model.proofs.component.solve_component.Goals as goal

pub run_passes-requires-clause-component : goal.run_passes-requires-clause-component
run_passes-requires-clause-component g c = its_clauses _ c.in_ok-own.own.items c.requires.components c.in_ok-own.ensures c.requires.inner c.index.result.now (sym (c.as_slice.ensures ∙ c.index.ensures))

pub run_passes-requires-clause-state : goal.run_passes-requires-clause-state
run_passes-requires-clause-state g c =
    put_state g.D.Domain.width g.D.Domain.listed c.args.p.now c.args.comps.now c.args.c (rows_of c.args.below.now.rows) c.in_ok-state.state _ c.in_ok-state.ensures.state refl refl
    c.in_ok-put_below.ensures.sizes c.in_ok-put_below.ensures.rows

pub run_passes-requires-clause-legal : goal.run_passes-requires-clause-legal
run_passes-requires-clause-legal g c =
    let old : State g.row.D.Denot =
    record { sizes = record { rows = c.put_below.new.rows; proofs = c.in_ok-state.state.sizes.proofs }; values = c.in_ok-state.state.values; proofs = c.in_ok-state.state.proofs; steps = c.in_ok-state.state.steps; latest = c.in_ok-state.state.latest } in
    none_legal g.D.Domain.speaks (g.N.Norm.expression c.args.norm.now) c.args.p.now old c.in_ok-state.ensures.steps

pub returns : goal.returns
returns g c =
    let below : c.args.c < length c.in_ok-own.own.items = omega (arith, c.in_ok-own.ensures.each, c.requires.inner) in
    let list : slice_get c.in_ok-own.own.items c.args.c ≡ Some c.index.result.now = there c.in_ok-own.own.items c.args.c c.index.result.now below ∙ ap Some (sym c.index.ensures) in
    let own : with_clauses c.args.p.now.clauses c.as_slice.result.now ≡ clauses_of c.args.p.now c.args.comps.now c.args.c =
    ap (with_clauses c.args.p.now.clauses) c.as_slice.ensures ∙ c.in_ok-own.ensures.clauses c.args.c c.index.result.now list in
    let start = c.in_ok-state.ensures.rows in
    let old : State g.row.D.Denot =
    record { sizes = record { rows = c.put_below.new.rows; proofs = c.in_ok-state.state.sizes.proofs }; values = c.in_ok-state.state.values; proofs = c.in_ok-state.state.proofs; steps = c.in_ok-state.state.steps; latest = c.in_ok-state.state.latest } in
    part_of g.D.Domain.width g.D.Domain.listed g.D.Domain.speaks (g.N.Norm.expression c.args.norm.now) c.args.p.now c.args.comps.now c.clauses-program.ensures.sound c.requires.components
    g.met.D.Domain.laws.1 g.met.D.Domain.laws.2 c.args.c (rows_of c.args.below.now.rows) old c.run_passes.new.self
    (subst (λ (ks : List (ℕ × Clause)). IsRun g.D.Domain.width g.D.Domain.listed g.D.Domain.speaks (g.N.Norm.expression c.args.norm.now) ks old c.run_passes.new.self) own c.in_ok-run_passes.ensures.run)
    c.in_ok-run_passes.ensures.state
    (λ i q. (c.in_ok-put_below.ensures.rows q ∙ ap (λ (f : ℕ → List (List ℤ)). if is_before c.args.c (slice_get c.args.comps.now.of q) then rows_of c.args.below.now.rows q else f q) start) i)
    c.in_ok-state.ensures.steps c.into_chain.result c.into_chain.ensures.rows c.into_chain.ensures.proofs c.into_chain.ensures.steps
