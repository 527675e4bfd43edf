use Rattle.std.proofs.Common.{take}
use Rattle.linear_rows.specs.Elimination.{crossed, falling}
use Rattle.linear_rows.specs.Blown.{crossed_fits}
use Rattle.sparse_rows.specs.Adding.{add_row}
use Rattle.fourier.proofs.Loops.{Done}
use Rattle.fourier.proofs.crossing.cross_falling.Given as goal

abbrev pub invariant-loop-j : goal.invariant-loop-j
invariant-loop-j l = Done (λ kept s. add_row l.column.last kept (crossed l.column.k l.r s)) (crossed_fits l.column.k l.r) l.initial.kept (falling l.column.k (take l.j l.rows)) l.kept
