use Rattle.std.proofs.Common.{◌≡◌, ◌<◌, ◌+◌, ℕ, true, take, slice_get, Some}
use Rattle.number_tests.specs.declared.pair_point.PairPoint.{PairPoint}
use Rattle.termination_model.specs.mappings.Refutation.{gather}
use Rattle.termination_model.specs.sizes.Sizes.{rows_of}
use Rattle.termination_model.specs.sizes.Systems.{row_fits}
use Rattle.number_tests.specs.Refuting.{PairFits, call_loads, head_loads}
use Rattle.number_tests.specs.Sums.{sum_at}
use Rattle.number_tests.specs.Systems.{IsReached}
use Rattle.number_tests.proofs.pair_sums.sum_pairs.Given as goal

abbrev pub invariant-loop-x : goal.invariant-loop-x
invariant-loop-x g l = record {
  reached : IsReached (g.N.Norm.expression l.norm) (rows_of l.sizes) l.p l.reached;
  heads : (q : ℕ) → sum_at l.heads q ≡ gather q (take l.x-index (head_loads (g.N.Norm.expression l.norm) l.p l.points));
  calls : (q : ℕ) → sum_at l.calls q ≡ gather q (take l.x-index (call_loads (g.N.Norm.expression l.norm) l.p l.points));
  values : (i : ℕ) → i < l.x-index → (x : PairPoint) → slice_get l.points i ≡ Some x → PairFits (g.N.Norm.expression l.norm) l.p x;
  head_sums : (k : ℕ) → k < l.x-index + 1 → (q : ℕ) → row_fits (gather q (take k (head_loads (g.N.Norm.expression l.norm) l.p l.points))) ≡ true;
  call_sums : (k : ℕ) → k < l.x-index + 1 → (q : ℕ) → row_fits (gather q (take k (call_loads (g.N.Norm.expression l.norm) l.p l.points))) ≡ true;
}
