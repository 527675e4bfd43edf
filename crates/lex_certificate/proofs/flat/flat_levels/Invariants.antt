use Rattle.std.proofs.Common.{◌≡◌, take, map}
use Rattle.lex_certificate.specs.Flat.{union_part}
use Rattle.lex_certificate.proofs.flat.flat_levels.Given as goal

-- those so far are united
abbrev pub invariant-loop-own : goal.invariant-loop-own
invariant-loop-own l = l.levels ≡ map (map union_part) (take l.own-index l.lists)
