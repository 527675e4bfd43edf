use Rattle.std.proofs.Common.{◌≡◌, ℕ, ◌<◌, true}
use Rattle.std.specs.Prelude.{neg_ℤ}
use Rattle.exact128.specs.Sums.{entry}
use Rattle.linear_rows.specs.Cleaning.{int_same}
use Rattle.sparse_rows.specs.Sparse.{spread, StandsAt}
use Rattle.sparse_rows.proofs.comparing.negates.Given as goal

abbrev pub invariant-loop-j : goal.invariant-loop-j
invariant-loop-j l = record {
  same : (j : ℕ) → j < l._j → int_same (entry (spread l.s l.s_tail) j) (neg_ℤ (entry (spread l.r l.r_tail) j)) ≡ true;
  p : StandsAt l.r l.r_tail (l._j) l.p;
  q : StandsAt l.s l.s_tail (l._j) l.q;
}
