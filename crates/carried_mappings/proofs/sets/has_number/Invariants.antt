use Rattle.std.proofs.Common.{◌≡◌, nat_eq, take, false}
use Rattle.std.specs.List.{list_any}
use Rattle.carried_mappings.proofs.sets.has_number.Given as goal

abbrev pub invariant-loop-other : goal.invariant-loop-other
invariant-loop-other l = list_any (λ x. nat_eq l.number x) (take l.other-index l.set) ≡ false
