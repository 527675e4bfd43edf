use Rattle.std.proofs.Common.{◌≡◌, length}
use Rattle.size_chains.proofs.state.State.add_proofs.Given as goal

abbrev pub invariant-loop-k : goal.invariant-loop-k
invariant-loop-k g l = record {
  proofs : length l.self.proofs.items ≡ l._k;
  sizes : l.self.sizes ≡ l.fn.self.sizes;
  values : l.self.values ≡ l.fn.self.values;
  steps : l.self.steps ≡ l.fn.self.steps;
}
