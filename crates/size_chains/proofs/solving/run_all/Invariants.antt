use Rattle.size_chains.specs.Repeating.{WereLegal}
use Rattle.size_chains.specs.Running.{IsChained}
use Rattle.size_chains.specs.States.{IsState, own_from}
use Rattle.size_chains.proofs.solving.run_all.Given as goal

abbrev pub invariant-loop-c : goal.invariant-loop-c
invariant-loop-c g l = record {
  state : IsState g.D.Domain.width g.D.Domain.listed (g.S.ClauseSystems.systems l.systems) (own_from l.comps l.c) l.p l.state;
  legal : WereLegal g.D.Domain.speaks (g.S.ClauseSystems.systems l.systems) l.p l.state;
  chained : IsChained g.D.Domain.width g.D.Domain.listed g.D.Domain.speaks (g.S.ClauseSystems.systems l.systems) l.p l.comps l.c l.state;
}
