use Rattle.std.proofs.Common.{◌≡◌, ◌++◌, length}
use Rattle.linear_rows.specs.Blown.{blend_fits}
use Rattle.sparse_rows.specs.Blending.{blended}
use Rattle.sparse_rows.specs.Sparse.{spread, rest_at}
use Rattle.sparse_rows.proofs.line.merge.Given as goal

abbrev pub invariant-loop-p : goal.invariant-loop-p
invariant-loop-p l = record {
  same : length (rest_at l.r l.r_tail l.p) ≡ length (rest_at l.s l.s_tail l.q);
  sum : l.out ++ blended l.a l.b (rest_at l.r l.r_tail l.p) (rest_at l.s l.s_tail l.q) ≡ blended l.a l.b (spread l.r l.r_tail) (spread l.s l.s_tail);
  fits : blend_fits l.a l.b (rest_at l.r l.r_tail l.p) (rest_at l.s l.s_tail l.q) ≡ blend_fits l.a l.b (spread l.r l.r_tail) (spread l.s l.s_tail);
}

abbrev pub decreases-loop-p : goal.decreases-loop-p
decreases-loop-p l = length (rest_at l.r l.r_tail l.p)
