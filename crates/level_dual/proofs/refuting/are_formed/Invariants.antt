use Rattle.std.proofs.Common.{drop}
use Rattle.std.specs.List.{AllByRecursion}
use Rattle.level_systems.specs.Found.{PairsAscend}
use Rattle.level_systems.specs.Refuted.{HasPoints}
use Rattle.level_dual.proofs.refuting.are_formed.Given as goal

-- the rest ascends and has its points exactly where all do
abbrev pub invariant-loop-x : goal.invariant-loop-x
invariant-loop-x l = record {
  ascend : PairsAscend (l.clause, l.call) (drop l.x-index l.points) → PairsAscend (0, 0) l.points;
  points : AllByRecursion HasPoints (drop l.x-index l.points) → AllByRecursion HasPoints l.points;
  rest_ascends : PairsAscend (0, 0) l.points → PairsAscend (l.clause, l.call) (drop l.x-index l.points);
  rest_points : AllByRecursion HasPoints l.points → AllByRecursion HasPoints (drop l.x-index l.points);
}
