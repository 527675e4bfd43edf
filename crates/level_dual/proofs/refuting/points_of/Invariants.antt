use Rattle.std.proofs.Common.{◌≡◌, ◌++◌, false, List, drop}
use Rattle.std.specs.List.{AllByRecursion}
use Rattle.number_tests.specs.declared.pair_point.PairPoint.{PairPoint}
use Rattle.level_systems.specs.Held.{live_of}
use Rattle.level_systems.specs.Refuted.{ArePoints, AreSpelled, IsOfCalls}
use Rattle.level_dual.proofs.refuting.points_of.Given as goal

-- with the points of the calls that are left, these are those of all calls
abbrev pub invariant-loop-own : goal.invariant-loop-own
invariant-loop-own l = record {
  mine : AllByRecursion (IsOfCalls l.calls) l.points;
  rest : l.by_pivots ≡ false → (xs : List PairPoint) → ArePoints (live_of (drop l.own-index l.calls)) l.numbers xs → ArePoints (live_of l.calls) l.fn.numbers (l.points ++ xs);
  spelled : l.by_pivots ≡ false → AreSpelled (live_of l.calls) l.fn.numbers → AreSpelled (live_of (drop l.own-index l.calls)) l.numbers;
}
