use Rattle.number_columns.specs.Links.{LinksMore, NoPair}
use Rattle.number_columns.specs.Meeting.{RowsKnown}
use Rattle.number_columns.proofs.finding.program_kinds.Given as goal

abbrev pub invariant-loop-q : goal.invariant-loop-q
invariant-loop-q l = record {
  links : LinksMore NoPair l.initial.links.parents.items l.links.parents.items;
  rows : RowsKnown l.p l.initial.links.parents.items l.q l.all;
}
