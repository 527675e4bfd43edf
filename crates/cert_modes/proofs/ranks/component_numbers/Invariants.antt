use Rattle.std.proofs.Common.{◌≡◌, take}
use Rattle.cert_modes.proofs.ranks.component_numbers.Given as goal

-- the numbers so far
abbrev pub invariant-loop-q : goal.invariant-loop-q
invariant-loop-q l = l.numbers.items ≡ take l.q l.comps.of
