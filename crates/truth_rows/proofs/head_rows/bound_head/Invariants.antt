use Rattle.std.proofs.Common.{◌+◌, ℕ, Bool, IsTrue}
use Rattle.bool_diagrams.specs.Rows.{IsDiagram, Keeps, holds}
use Rattle.truth_rows.specs.Ends.{SaysAsked}
use Rattle.truth_rows.specs.Ready.{HasTruths}
use Rattle.truth_rows.proofs.head_rows.bound_head.Given as goal

abbrev pub invariant-loop-place : goal.invariant-loop-place
invariant-loop-place g l =
    record {
      keeps : Keeps l.fn.table l.table;
      known : IsDiagram l.table l.rows;
      rows : SaysAsked l.ends l.place
          (λ (v : ℕ → Bool). IsTrue (holds l.fn.table l.fn.body v) × HasTruths (g.N.Norm.truth l.norm) v (λ j. v (48 + j)) l.arguments l.place)
          (holds l.table l.rows);
    }
