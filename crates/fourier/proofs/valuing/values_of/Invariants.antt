use Rattle.std.proofs.Common.{◌≡◌, ◌+◌, suc, length, map, drop, Some}
use Rattle.rational128.specs.Formulas.{fraction_of}
use Rattle.linear_rows.specs.Step.{columns}
use Rattle.fourier.specs.History.{values_back}
use Rattle.fourier.proofs.valuing.values_of.Given as goal

abbrev pub invariant-loop-i : goal.invariant-loop-i
invariant-loop-i l = record {
  count : l.i + length l.values.items ≡ length l.before;
  values : values_back (columns (suc l.i) (length l.values.items)) (drop l.i l.before) ≡ Some (map fraction_of l.values.items);
}

abbrev pub decreases-loop-i : goal.decreases-loop-i
decreases-loop-i l = l.i
