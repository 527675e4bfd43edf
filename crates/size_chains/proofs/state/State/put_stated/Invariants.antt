use Rattle.std.proofs.Common.{◌≡◌}
use Rattle.size_chains.specs.States.{AreStatedTo}
use Rattle.size_chains.proofs.state.State.put_stated.Given as goal

abbrev pub invariant-loop-q : goal.invariant-loop-q
invariant-loop-q g l = record {
  stated : AreStatedTo g.D.Domain.width g.D.Domain.listed (g.S.ClauseSystems.systems l.systems) (g.S.ClauseSystems.listing l.systems) l.q l.self;
  proofs : l.self.proofs ≡ l.fn.self.proofs;
  steps : l.self.steps ≡ l.fn.self.steps;
}
