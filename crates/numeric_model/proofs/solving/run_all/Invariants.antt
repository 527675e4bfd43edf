use Rattle.numeric_model.specs.Repeating.{WereLegal}
use Rattle.numeric_model.specs.Running.{IsChained}
use Rattle.numeric_model.specs.States.{IsState, own_from}
use Rattle.numeric_model.proofs.solving.run_all.Given as goal

abbrev pub invariant-loop-c : goal.invariant-loop-c
invariant-loop-c g l = record {
  state : IsState g.D.Domain.width g.D.Domain.listed (own_from l.comps l.c) l.p l.state;
  legal : WereLegal g.D.Domain.speaks (g.N.Norm.expression l.norm) l.p l.state;
  chained : IsChained g.D.Domain.width g.D.Domain.listed g.D.Domain.speaks (g.N.Norm.expression l.norm) l.p l.comps l.c l.state;
}
