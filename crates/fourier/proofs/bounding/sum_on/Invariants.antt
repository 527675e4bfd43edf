use Rattle.std.proofs.Common.{◌≡◌, ◌+◌, drop, map}
use Rattle.linear_rows.specs.Solving.{sum_on}
use Rattle.rational128.specs.Formulas.{fraction_of}
use Rattle.fourier.proofs.bounding.sum_on.Given as goal

abbrev pub invariant-loop-j : goal.invariant-loop-j
invariant-loop-j l =
    sum_on (fraction_of l.sum) (drop (l.from + l.j) l.row) (drop l.j (map fraction_of l.values.items)) ≡ sum_on (fraction_of l.fn.start) (drop l.from l.row) (map fraction_of l.values.items)
