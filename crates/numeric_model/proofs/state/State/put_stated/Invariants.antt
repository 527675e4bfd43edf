use Rattle.std.proofs.Common.{◌≡◌}
use Rattle.numeric_model.specs.States.{AreStatedTo}
use Rattle.numeric_model.proofs.state.State.put_stated.Given as goal

abbrev pub invariant-loop-q : goal.invariant-loop-q
invariant-loop-q g l = record {
  stated : AreStatedTo g.D.Domain.width g.D.Domain.listed l.p l.q l.self;
  proofs : l.self.proofs ≡ l.fn.self.proofs;
  steps : l.self.steps ≡ l.fn.self.steps;
}
