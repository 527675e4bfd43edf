use Rattle.std.proofs.Common.{◌≡◌, drop}
use Rattle.linear_rows.specs.Replacing.{row_fits}
use Rattle.number_turns.proofs.transition.numbers_fit.Given as goal

abbrev pub invariant-loop-number : goal.invariant-loop-number
invariant-loop-number l = row_fits (drop l.number-index l.numbers) ≡ row_fits l.numbers
