use Rattle.std.proofs.Common.{take, get_or, []}
use Rattle.linear_rows.specs.Equation.{other_places}
use Rattle.fourier.specs.SolvedRows.{add_solved, add_solved_fits}
use Rattle.fourier.proofs.Loops.{Done}
use Rattle.fourier.proofs.equations.cross_equation.Given as goal

abbrev pub invariant-loop-p : goal.invariant-loop-p
invariant-loop-p l = Done (add_solved l.column.last l.column.k (get_or l.rows l.i []) (get_or l.rows l.j [])) (add_solved_fits l.column.k (get_or l.rows l.i []) (get_or l.rows l.j [])) l.initial.kept (other_places 0 l.i l.j (take l.p l.rows)) l.kept
