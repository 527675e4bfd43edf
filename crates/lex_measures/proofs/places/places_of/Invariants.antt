use Rattle.std.proofs.Common.{◌≡◌, map, take}
use Rattle.lex_measures.specs.Lists.{place_of}
use Rattle.lex_measures.proofs.places.places_of.Given as goal

abbrev pub invariant-loop-list : goal.invariant-loop-list
invariant-loop-list l = l.places ≡ map (place_of l.clause l.call) (take l.list-index l.lists)
