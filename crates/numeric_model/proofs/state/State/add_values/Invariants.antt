use Rattle.std.proofs.Common.{◌≡◌, take}
use Rattle.numeric_model.specs.States.{AreStarts}
use Rattle.numeric_model.proofs.state.State.add_values.Given as goal

abbrev pub invariant-loop-q : goal.invariant-loop-q
invariant-loop-q g l = record {
  starts : AreStarts g.D.Domain.width g.D.Domain.listed (take l.q l.p.preds) l.self.sizes.rows l.self.values.items;
  proofs : l.self.proofs ≡ l.fn.self.proofs;
  steps : l.self.steps ≡ l.fn.self.steps;
}
