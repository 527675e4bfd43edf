use Rattle.std.proofs.Common.{◌≡◌, pos, map, drop}
use Rattle.std.specs.Prelude.{◌≤ℤ◌}
use Rattle.rational128.specs.Formulas.{fraction_of}
use Rattle.linear_rows.specs.Solving.{common_of}
use Rattle.fourier.proofs.scaling.common_of.Given as goal

abbrev pub invariant-loop-i : goal.invariant-loop-i
invariant-loop-i l = record {
  value : common_of l.common (drop l.i (map fraction_of l.values.items)) ≡ common_of (pos 1) (map fraction_of l.values.items);
  positive : pos 1 ≤ℤ l.common;
}
