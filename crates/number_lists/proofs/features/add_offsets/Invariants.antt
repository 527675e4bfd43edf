use Rattle.std.proofs.Common.{◌≡◌, ◌++◌, map, take}
use Rattle.number_turns.specs.Recalled.{spelled}
use Rattle.number_lists.proofs.features.add_offsets.Given as goal

abbrev pub invariant-loop-member : goal.invariant-loop-member
invariant-loop-member l = map spelled l.features.items ≡ map spelled l.fn.features.items ++ map (λ q. (q, 0)) (take l.member-index l.members)
