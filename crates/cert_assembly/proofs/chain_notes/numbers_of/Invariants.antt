use Rattle.std.proofs.Common.{◌≡◌, map, take}
use Rattle.linear_rows.specs.Plain.{plain_row}
use Rattle.cert_assembly.proofs.chain_notes.numbers_of.Given as goal

-- the numbers of the rows so far are there
abbrev pub invariant-loop-row : goal.invariant-loop-row
invariant-loop-row l = l.numbers ≡ map plain_row (take l.row-index l.row-items)
