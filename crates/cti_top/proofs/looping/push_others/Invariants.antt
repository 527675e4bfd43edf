use Rattle.std.proofs.Common.{◌≡◌, ◌++◌, take, flat_map}
use Rattle.std.specs.Prelude.{codes, decimal}
use Rattle.cti_top.proofs.looping.push_others.Given as goal

-- the numbers so far are appended
abbrev pub invariant-loop-number : goal.invariant-loop-number
invariant-loop-number l = l.text.items ≡ l.initial.text.items ++ flat_map (λ n. codes "," ++ decimal n) (take l.number-index l.numbers)
