use Rattle.std.proofs.Common.{take}
use Rattle.component_clauses.specs.Numbered.{with_clauses}
use Rattle.size_chains.specs.Running.{IsPassed}
use Rattle.size_chains.specs.Repeating.{WereLegal}
use Rattle.size_chains.specs.States.{IsState, own_from}
use Rattle.size_chains.proofs.state.State.run_pass.Given as goal

abbrev pub invariant-loop-k : goal.invariant-loop-k
invariant-loop-k g l = record {
  state : IsState g.D.Domain.width g.D.Domain.listed (g.S.ClauseSystems.systems l.systems) (own_from l.own.comps.now l.own.number) l.own.program.now l.self;
  legal : WereLegal g.D.Domain.speaks (g.S.ClauseSystems.systems l.systems) l.own.program.now l.self;
  passed : IsPassed g.D.Domain.width g.D.Domain.listed g.D.Domain.speaks (g.S.ClauseSystems.systems l.systems) l.number (with_clauses l.own.program.now.clauses (take l.k-index l.own.clauses.now)) l.fn.self l.self l.changed;
}
