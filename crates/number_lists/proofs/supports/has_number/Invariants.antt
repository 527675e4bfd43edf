use Rattle.std.proofs.Common.{◌≡◌, drop, map}
use Rattle.number_turns.specs.Recalled.{spelled}
use Rattle.number_lists.specs.Large.{has_number}
use Rattle.number_lists.proofs.supports.has_number.Given as goal

abbrev pub invariant-loop-i : goal.invariant-loop-i
invariant-loop-i l = has_number l.position (map spelled (drop l.i l.features)) (drop l.i l.numbers) ≡ has_number l.position (map spelled l.features) l.numbers
