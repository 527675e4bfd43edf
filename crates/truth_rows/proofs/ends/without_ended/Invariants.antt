use Rattle.std.proofs.Common.{ℕ, Bool, IsTrue}
use Rattle.bool_diagrams.specs.Rows.{IsDiagram, Keeps, holds}
use Rattle.truth_rows.specs.Ends.{SaysAsked}
use Rattle.truth_rows.proofs.ends.without_ended.Given as goal

abbrev pub invariant-loop-x : goal.invariant-loop-x
invariant-loop-x l =
    record {
      keeps : Keeps l.fn.table l.table;
      known : IsDiagram l.table l.rows;
      rows : SaysAsked l.ends l.place (λ (v : ℕ → Bool). IsTrue (holds l.fn.table l.fn.set v)) (holds l.table l.rows);
    }
