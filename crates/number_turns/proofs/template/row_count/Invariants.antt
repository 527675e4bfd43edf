use Rattle.std.proofs.Common.{◌≡◌, ◌+◌, drop}
use Rattle.number_turns.specs.Demanding.{row_count}
use Rattle.number_turns.proofs.template.row_count.Given as goal

abbrev pub invariant-loop-demand : goal.invariant-loop-demand
invariant-loop-demand l = l.count + row_count (drop l.demand-index l.demands) ≡ row_count l.demands
