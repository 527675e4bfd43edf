use Rattle.std.proofs.Common.{◌≡◌, drop}
use Rattle.linear_rows.specs.Equation.{equation_from}
use Rattle.fourier.proofs.equations.equation.Given as goal

abbrev pub invariant-loop-i : goal.invariant-loop-i
invariant-loop-i l = equation_from l.many l.k l.rows l.i (drop l.i l.rows) ≡ equation_from l.many l.k l.rows 0 l.rows
