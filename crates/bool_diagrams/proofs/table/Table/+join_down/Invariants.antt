use Rattle.std.proofs.Common.{◌+◌}
use Rattle.bool_diagrams.proofs.table.Table.+join_down.Given as goal

abbrev pub decreases-join_down : goal.decreases-join_down
decreases-join_down l = l.a + l.b
