use Rattle.std.proofs.Common.{◌∙◌, ℕ, List, refl, subst}
use Rattle.cti_terms.specs.declared.clauses.Clause.{Clause}
use Rattle.cti_terms.specs.Listing.{Listing}
use Rattle.size_chains.specs.Running.{IsRun, rows_in}
use Rattle.size_chains.specs.Systems.{AreSystems}
use Rattle.size_chains.proofs.Below.{part_of}
use Rattle.size_chains.proofs.Readies.{other_rows, ready_more, rows_ready}
use Rattle.size_chains.proofs.Repeats.{none_legal}
use Rattle.size_chains.proofs.state.State.solve.Goals as goal

pub run_passes-requires-clause-state : goal.run_passes-requires-clause-state
run_passes-requires-clause-state g c = c.requires.ready.state

pub run_passes-requires-clause-legal : goal.run_passes-requires-clause-legal
run_passes-requires-clause-legal g c = none_legal g.D.Domain.speaks (g.S.ClauseSystems.systems c.args.systems.now) c.args.own.now.program.now c.args.self.now c.requires.ready.none

pub returns-clause-ready : goal.returns-clause-ready
returns-clause-ready g c =
    let own = c.args.own.now in
    let run = subst (λ (ks : List (ℕ × Clause)). IsRun g.D.Domain.width g.D.Domain.listed g.D.Domain.speaks (g.S.ClauseSystems.systems c.args.systems.now) ks c.args.self.now c.run_passes.new.self) c.requires.component.clauses_are c.in_ok-run_passes.ensures.run in
    ready_more g.D.Domain.width g.D.Domain.listed g.D.Domain.speaks (g.S.ClauseSystems.systems c.args.systems.now) own.program.now own.comps.now c.clauses-program.ensures.sound c.requires.component.components own.number c.args.self.now c.run_passes.new.self run
    _ c.requires.ready c.in_ok-run_passes.ensures.state refl refl refl (c.replace.ensures.after ∙ c.new.ensures)

pub returns-clause-part : goal.returns-clause-part
returns-clause-part g c =
    let own = c.args.own.now in
    let run = subst (λ (ks : List (ℕ × Clause)). IsRun g.D.Domain.width g.D.Domain.listed g.D.Domain.speaks (g.S.ClauseSystems.systems c.args.systems.now) ks c.args.self.now c.run_passes.new.self) c.requires.component.clauses_are c.in_ok-run_passes.ensures.run in
    part_of g.D.Domain.width g.D.Domain.listed g.D.Domain.speaks (g.S.ClauseSystems.systems c.args.systems.now) own.program.now own.comps.now c.clauses-program.ensures.sound c.requires.component.components (subst (λ (x : Listing). AreSystems x (g.S.ClauseSystems.systems c.args.systems.now)) c.requires.same c.program-systems.ensures.lawful)
    g.met.D.Domain.laws.1 g.met.D.Domain.laws.2 own.number (rows_in c.args.self.now) c.args.self.now c.run_passes.new.self run c.in_ok-run_passes.ensures.state
    (rows_ready g.D.Domain.width g.D.Domain.listed (g.S.ClauseSystems.systems c.args.systems.now) own.program.now own.comps.now own.number c.args.self.now c.requires.ready) c.requires.ready.none _ refl refl c.replace.ensures.value

pub returns-clause-others : goal.returns-clause-others
returns-clause-others g c =
    let own = c.args.own.now in
    let run = subst (λ (ks : List (ℕ × Clause)). IsRun g.D.Domain.width g.D.Domain.listed g.D.Domain.speaks (g.S.ClauseSystems.systems c.args.systems.now) ks c.args.self.now c.run_passes.new.self) c.requires.component.clauses_are c.in_ok-run_passes.ensures.run in
    other_rows g.D.Domain.width g.D.Domain.listed g.D.Domain.speaks (g.S.ClauseSystems.systems c.args.systems.now) own.program.now own.comps.now c.clauses-program.ensures.sound c.requires.component.components own.number c.args.self.now c.run_passes.new.self run
