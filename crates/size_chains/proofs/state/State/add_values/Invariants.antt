use Rattle.std.proofs.Common.{◌≡◌}
use Rattle.size_chains.specs.States.{AreStarts}
use Rattle.size_chains.proofs.state.State.add_values.Given as goal

abbrev pub invariant-loop-q : goal.invariant-loop-q
invariant-loop-q g l = record {
  starts : AreStarts g.D.Domain.width g.D.Domain.listed (g.S.ClauseSystems.systems l.systems) l.q l.self.sizes.rows l.self.values.items;
  proofs : l.self.proofs ≡ l.fn.self.proofs;
  steps : l.self.steps ≡ l.fn.self.steps;
}
