use Rattle.std.proofs.Common.{◌≡◌, ◌++◌, map, drop, length, Some}
use Rattle.exact128.specs.Fractions.{then_do}
use Rattle.rational128.specs.Formulas.{fraction_of}
use Rattle.linear_rows.specs.Solving.{made_whole}
use Rattle.fourier.proofs.scaling.made_whole.Given as goal

abbrev pub invariant-loop-i : goal.invariant-loop-i
invariant-loop-i l = record {
  numbers : then_do (made_whole l.common (drop l.i (map fraction_of l.values.items))) (λ xs. Some (l.numbers ++ xs)) ≡ made_whole l.common (map fraction_of l.values.items);
  long : length l.numbers ≡ l.i;
}
