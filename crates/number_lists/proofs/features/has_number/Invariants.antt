use Rattle.std.proofs.Common.{◌≡◌, nat_eq, drop}
use Rattle.std.specs.List.{list_any}
use Rattle.number_lists.proofs.features.has_number.Given as goal

abbrev pub invariant-loop-other : goal.invariant-loop-other
invariant-loop-other l = list_any (λ x. nat_eq l.number x) (drop l.other-index l.set) ≡ list_any (λ x. nat_eq l.number x) l.set
