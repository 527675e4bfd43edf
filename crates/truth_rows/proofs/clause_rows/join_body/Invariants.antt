use Rattle.std.proofs.Common.{◌≤◌, ℕ, Bool, IsTrue, length}
use Rattle.bool_diagrams.specs.Rows.{IsDiagram, Keeps, holds}
use Rattle.truth_rows.specs.Ends.{SaysAsked}
use Rattle.truth_rows.specs.Ready.{HasAtoms}
use Rattle.truth_rows.proofs.clause_rows.join_body.Given as goal

abbrev pub invariant-loop-place : goal.invariant-loop-place
invariant-loop-place g l =
    record {
      keeps : Keeps l.fn.table l.table;
      known : IsDiagram l.table l.rows;
      within : l.place ≤ length l.clause.body;
      rows : SaysAsked l.ends l.place
          (λ (v : ℕ → Bool). HasAtoms (g.N.Norm.truth l.norm) l.fn.table l.sets v l.clause.body l.place × IsTrue (holds l.fn.table l.fn.placed v))
          (holds l.table l.rows);
    }
