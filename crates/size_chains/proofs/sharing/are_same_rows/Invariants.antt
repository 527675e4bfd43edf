use Rattle.std.proofs.Common.{◌≡◌, map, take}
use Rattle.linear_rows.specs.Plain.{plain_row}
use Rattle.size_chains.proofs.sharing.are_same_rows.Given as goal

-- the rows so far are the same
abbrev pub invariant-loop-i : goal.invariant-loop-i
invariant-loop-i l = map plain_row (take l.i l.a) ≡ map plain_row (take l.i l.b)
