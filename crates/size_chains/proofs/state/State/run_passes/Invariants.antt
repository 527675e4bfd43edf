use Rattle.std.proofs.Common.{◌+◌, ◌-◌, ◌*◌, ◌^◌, suc, length}
use Rattle.size_chains.specs.States.{IsState, own_from, weights}
use Rattle.size_chains.specs.Repeating.{WereLegal}
use Rattle.component_clauses.specs.Numbered.{with_clauses}
use Rattle.size_chains.proofs.Passes.{IsRunning}
use Rattle.size_chains.proofs.state.State.run_passes.Given as goal

abbrev pub invariant-loop-changed : goal.invariant-loop-changed
invariant-loop-changed g l = record {
  state : IsState g.D.Domain.width g.D.Domain.listed (g.S.ClauseSystems.systems l.systems) (own_from l.own.comps.now l.own.number) l.own.program.now l.self;
  legal : WereLegal g.D.Domain.speaks (g.S.ClauseSystems.systems l.systems) l.own.program.now l.self;
  running : IsRunning g.D.Domain.width g.D.Domain.listed g.D.Domain.speaks (g.S.ClauseSystems.systems l.systems) (with_clauses l.own.program.now.clauses l.own.clauses.now) l.number l.fn.self l.self;
}

abbrev pub decreases-loop-changed : goal.decreases-loop-changed
decreases-loop-changed g l = (4 - l.number) * suc (length l.own.program.now.preds * 2 ^ 65) + weights g.D.Domain.width g.D.Domain.listed l.self.values.items
