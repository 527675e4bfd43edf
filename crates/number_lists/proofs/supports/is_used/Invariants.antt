use Rattle.std.proofs.Common.{◌≡◌, take, false}
use Rattle.number_lists.specs.Large.{is_held_used}
use Rattle.number_lists.proofs.supports.is_used.Given as goal

abbrev pub invariant-loop-mapping : goal.invariant-loop-mapping
invariant-loop-mapping l = is_held_used l.position (take l.mapping-index l.mapping-items) ≡ false
