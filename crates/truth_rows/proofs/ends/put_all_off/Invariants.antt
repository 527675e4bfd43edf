use Rattle.std.proofs.Common.{◌≡◌, ◌<◌, ℕ, length, slice_get, Some}
use Rattle.cti_terms.specs.Tree.{Tree}
use Rattle.truth_rows.specs.Ends.{IsAsked, IsTold}
use Rattle.truth_rows.proofs.ends.put_all_off.Given as goal

abbrev pub invariant-loop-t : goal.invariant-loop-t
invariant-loop-t g l =
    record {
      each : length l.ends ≡ length l.fn.ends;
      more : (n y : ℕ) → IsAsked l.fn.ends n y → IsAsked l.ends n y;
      told : (n : ℕ) → n < l.end → (j : ℕ) (t : Tree) → j < l.t-index → slice_get l.terms j ≡ Some t → IsTold (g.N.Norm.truth l.norm) l.ends n t;
    }
