use Rattle.std.proofs.Common.{◌≡◌}
use Rattle.number_columns.specs.Links.{LinksMore}
use Rattle.number_columns.specs.Meeting.{ClausesLinked, ProgramPairs}
use Rattle.number_columns.proofs.numeric.link_clauses.Given as goal

abbrev pub invariant-loop-k : goal.invariant-loop-k
invariant-loop-k l = record {
  links : LinksMore (ProgramPairs l.p) l.fn.links.parents.items l.links.parents.items;
  closed : ClausesLinked l.p l.links.parents.items l.k;
}
