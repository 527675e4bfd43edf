use Rattle.std.proofs.Common.{◌≡◌, ◌<◌, ℕ, length, slice_get, Some}
use Rattle.cti_terms.specs.Tree.{Tree}
use Rattle.truth_rows.specs.Ends.{IsTold}
use Rattle.truth_rows.proofs.head_rows.put_arguments_off.Given as goal

abbrev pub invariant-loop-place : goal.invariant-loop-place
invariant-loop-place g l =
    record {
      each : length l.ends ≡ length l.fn.ends;
      told : (j : ℕ) (t : Tree) → j < l.place → slice_get l.arguments j ≡ Some t → IsTold (g.N.Norm.truth l.norm) l.ends j t;
    }
