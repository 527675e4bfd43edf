use Rattle.std.proofs.Common.{◌≡◌, map, take}
use Rattle.cert_modes.specs.Sets.{is_positive}
use Rattle.cert_modes.proofs.covering.signs.Given as goal

-- the signs of the numbers so far
abbrev pub invariant-loop-number : goal.invariant-loop-number
invariant-loop-number l = l.signs.items ≡ map is_positive (take l.number-index l.numbers)
