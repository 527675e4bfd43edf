use Rattle.std.proofs.Common.{◌≡◌, ◌+◌, ◌<◌, ℕ, Bool, IsTrue, length, slice_get, Some}
use Rattle.bool_diagrams.specs.Rows.{IsDiagram, Keeps, holds}
use Rattle.cti_terms.specs.Tree.{Tree}
use Rattle.truth_rows.specs.Ends.{IsAsked, IsPlacedOrTold}
use Rattle.truth_rows.specs.Ready.{HasTruths}
use Rattle.truth_rows.proofs.placing.place_head.Given as goal

abbrev pub invariant-loop-place : goal.invariant-loop-place
invariant-loop-place g l =
    record {
      keeps : Keeps l.fn.table l.table;
      known : IsDiagram l.table l.rows;
      each : length l.ends ≡ length l.fn.ends;
      more : (n x : ℕ) → IsAsked l.fn.ends n x → IsAsked l.ends n x;
      all : (row : ℕ → Bool) → HasTruths (g.N.Norm.truth l.norm) row (λ j. row (48 + j)) l.arguments l.place → IsTrue (holds l.table l.rows row);
      some : (row : ℕ → Bool) → IsTrue (holds l.table l.rows row) → (j : ℕ) (t : Tree) → j < l.place → slice_get l.arguments j ≡ Some t → IsPlacedOrTold (g.N.Norm.truth l.norm) l.ends l.end row j t;
    }
