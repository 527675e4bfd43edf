use Rattle.std.proofs.Common.{◌≡◌, map, take}
use Rattle.lex_turns.specs.Single.{drop_of_fall}
use Rattle.lex_turns.proofs.single.drops_of.Given as goal

abbrev pub invariant-loop-fall : goal.invariant-loop-fall
invariant-loop-fall l = l.drops ≡ map drop_of_fall (take l.fall-index l.falls)
