use Rattle.std.proofs.Common.{◌≡◌, ◌<◌, ℕ, slice_get, Some}
use Rattle.number_tests.specs.declared.pair_point.PairPoint.{PairPoint}
use Rattle.termination_model.specs.sizes.Sizes.{rows_of}
use Rattle.std.specs.Io.Iter.{u64_saturate}
use Rattle.number_tests.specs.Failing.{before, points_of}
use Rattle.number_tests.specs.Refuting.{PointHolds}
use Rattle.number_tests.specs.Systems.{IsReached}
use Rattle.number_tests.proofs.point_flaws.points_flaw.Given as goal

abbrev pub invariant-loop-x : goal.invariant-loop-x
invariant-loop-x g l = record {
  place : l.place ≡ u64_saturate (before points_of l.points l.x-index);
  reached : IsReached (g.N.Norm.expression l.norm) (rows_of l.sizes) l.p l.reached;
  points : (i : ℕ) → i < l.x-index → (x : PairPoint) → slice_get l.points i ≡ Some x → PointHolds (g.N.Norm.expression l.norm) l.p (rows_of l.sizes) x;
}
