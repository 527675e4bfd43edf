use Rattle.std.proofs.Common.{◌≡◌, nat_eq, take, false}
use Rattle.std.specs.List.{list_any}
use Rattle.report.proofs.support_notes.has_position.Given as goal

abbrev pub invariant-loop-x : goal.invariant-loop-x
invariant-loop-x l = list_any (λ x. nat_eq l.position x) (take l.x-index l.set) ≡ false
