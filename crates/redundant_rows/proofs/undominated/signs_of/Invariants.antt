use Rattle.std.proofs.Common.{◌≡◌, length}
use Rattle.redundant_rows.proofs.undominated.signs_of.Given as goal

abbrev pub invariant-loop-row : goal.invariant-loop-row
invariant-loop-row l = length l.all.items ≡ l.row-index
