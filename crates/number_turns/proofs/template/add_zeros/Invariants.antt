use Rattle.std.proofs.Common.{◌≡◌, ◌++◌}
use Rattle.linear_rows.specs.Solving.{zeros}
use Rattle.number_turns.proofs.template.add_zeros.Given as goal

abbrev pub invariant-loop-place : goal.invariant-loop-place
invariant-loop-place l = l.row.items ≡ l.fn.row.items ++ zeros l._place
