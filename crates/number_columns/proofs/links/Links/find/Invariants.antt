use Rattle.std.proofs.Common.{◌≡◌, ◌<◌, ◌≤◌, ℕ, length}
use Rattle.number_columns.specs.Links.{AreLinked, LinksMore, NoPair, parent}
use Rattle.number_columns.proofs.links.Links.find.Given as goal

abbrev pub invariant-loop-at : goal.invariant-loop-at
invariant-loop-at l = record {
  known : l.at < length l.fn.self.parents.items;
  earlier : l.at ≤ l.fn.node;
  links : LinksMore NoPair l.fn.self.parents.items l.self.parents.items;
  linked : AreLinked l.fn.self.parents.items l.at l.fn.node;
  roots : (i : ℕ) → parent l.fn.self.parents.items i ≡ i → parent l.self.parents.items i ≡ i;
}

abbrev pub decreases-loop-at : goal.decreases-loop-at
decreases-loop-at l = l.at
