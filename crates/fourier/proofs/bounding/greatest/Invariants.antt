use Rattle.std.proofs.Common.{◌≡◌, drop, map, pos}
use Rattle.exact128.specs.Fractions.{whole}
use Rattle.linear_rows.specs.Elimination.{rising}
use Rattle.linear_rows.specs.Solving.{greatest}
use Rattle.rational128.specs.Formulas.{fraction_of}
use Rattle.fourier.proofs.bounding.greatest.Given as goal

abbrev pub invariant-loop-i : goal.invariant-loop-i
invariant-loop-i l =
    greatest l.k (map fraction_of l.values.items) (fraction_of l.best) (rising l.k (drop l.i l.rows)) ≡ greatest l.k (map fraction_of l.values.items) (whole (pos 0)) (rising l.k l.rows)
