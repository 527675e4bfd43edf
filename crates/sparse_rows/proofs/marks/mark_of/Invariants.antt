use Rattle.std.proofs.Common.{◌≡◌, ◌+◌}
use Rattle.sparse_rows.specs.Marks.{mark_of}
use Rattle.sparse_rows.specs.Sparse.{spread, StandsAt}
use Rattle.sparse_rows.proofs.marks.mark_of.Given as goal

abbrev pub invariant-loop-j : goal.invariant-loop-j
invariant-loop-j l = record {
  mark : l.mark ≡ mark_of l._j (spread l.parts l.tail);
  place : StandsAt l.parts l.tail (l._j + 1) l.place;
}
