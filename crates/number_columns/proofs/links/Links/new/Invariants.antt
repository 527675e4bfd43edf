use Rattle.std.proofs.Common.{◌≡◌, ◌<◌, ℕ, length}
use Rattle.number_columns.specs.Links.{parent}
use Rattle.number_columns.proofs.links.Links.new.Given as goal

abbrev pub invariant-loop-node : goal.invariant-loop-node
invariant-loop-node l = record {
  count : length l.parents.items ≡ l.node;
  own : (i : ℕ) → i < l.node → parent l.parents.items i ≡ i;
}
