use Rattle.std.proofs.Common.{◌≡◌}
use Rattle.number_columns.specs.Links.{LinksMore}
use Rattle.number_columns.specs.Meeting.{BuiltinPairs, BuiltinsLinked}
use Rattle.number_columns.proofs.numeric.link_builtins.Given as goal

abbrev pub invariant-loop-q : goal.invariant-loop-q
invariant-loop-q l = record {
  links : LinksMore (BuiltinPairs l.p.arithmetic) l.fn.links.parents.items l.links.parents.items;
  closed : BuiltinsLinked l.p.arithmetic l.links.parents.items l.q;
}
