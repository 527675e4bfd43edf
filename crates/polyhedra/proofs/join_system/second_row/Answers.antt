use Rattle.std.proofs.Common.{suc, arith}
use Rattle.polyhedra.proofs.join_system.second_row.Goals as goal

pub push_opposite-requires : goal.push_opposite-requires
push_opposite-requires c = λ k d l. c.requires (suc k) d (omega arith)
