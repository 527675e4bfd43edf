use Rattle.std.proofs.Common.{◌≡◌, length}
use Rattle.number_columns.specs.Links.{LinksMore, NoPair}
use Rattle.number_columns.specs.Meeting.{AreKindsOf}
use Rattle.number_columns.proofs.finding.kinds_of.Given as goal

abbrev pub invariant-loop-i : goal.invariant-loop-i
invariant-loop-i l = record {
  links : LinksMore NoPair l.fn.links.parents.items l.links.parents.items;
  length : length l.kinds ≡ l.i;
  each : AreKindsOf l.fn.links.parents.items l.pred.0 l.kinds;
}
