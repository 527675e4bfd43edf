use Rattle.std.proofs.Common.{◌≡◌}
use Rattle.linear_rows.specs.Step.{columns}
use Rattle.level_dual.proofs.finding.all_numbers.Given as goal

abbrev pub invariant-loop-number : goal.invariant-loop-number
invariant-loop-number l = l.numbers.items ≡ columns 1 l.number
