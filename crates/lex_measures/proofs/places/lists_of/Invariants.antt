use Rattle.std.proofs.Common.{◌≡◌, map, take}
use Rattle.cert_structure.specs.Shape.{arity_in}
use Rattle.lex_measures.specs.Lists.{list_of}
use Rattle.lex_measures.proofs.places.lists_of.Given as goal

abbrev pub invariant-loop-list : goal.invariant-loop-list
invariant-loop-list l = l.parts ≡ map (list_of (arity_in l.p l.q.0) l.q.0) (take l.list-index l.lists)
