use Rattle.std.proofs.Common.{take, map}
use Rattle.linear_rows.specs.Elimination.{crossed, rising, falling}
use Rattle.linear_rows.specs.Blown.{crossed_fits, all_of}
use Rattle.sparse_rows.specs.Adding.{add_rows}
use Rattle.fourier.proofs.Loops.{Done}
use Rattle.fourier.proofs.crossing.cross_rising.Given as goal

abbrev pub invariant-loop-i : goal.invariant-loop-i
invariant-loop-i l = Done (λ kept r. add_rows l.column.last kept (map (λ s. crossed l.column.k r s) (falling l.column.k l.rows))) (λ r. all_of (crossed_fits l.column.k r) (falling l.column.k l.rows)) l.initial.kept (rising l.column.k (take l.i l.rows)) l.kept
