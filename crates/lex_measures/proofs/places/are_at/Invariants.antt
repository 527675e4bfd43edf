use Rattle.std.proofs.Common.{take}
use Rattle.std.specs.List.{AllByRecursion}
use Rattle.lex_measures.specs.Lists.{AreDropsAt}
use Rattle.lex_measures.proofs.places.are_at.Given as goal

abbrev pub invariant-loop-list : goal.invariant-loop-list
invariant-loop-list l = AllByRecursion (λ m. AreDropsAt m.drops l.at l.clause l.call) (take l.list-index l.lists)
