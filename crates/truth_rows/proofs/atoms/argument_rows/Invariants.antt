use Rattle.std.proofs.Common.{◌≡◌, ℕ, Bool}
use Rattle.bool_diagrams.specs.Rows.{IsDiagram, Keeps, holds}
use Rattle.truth_rows.proofs.ArgumentLaws.{mixed}
use Rattle.truth_rows.proofs.atoms.argument_rows.Given as goal

abbrev pub invariant-loop-place : goal.invariant-loop-place
invariant-loop-place g l =
    record {
      keeps : Keeps l.fn.table l.table;
      known : IsDiagram l.table l.rows;
      rows : (row : ℕ → Bool) → holds l.table l.rows row ≡ holds l.fn.table l.fn.set (mixed (g.N.Norm.truth l.norm) l.arguments row l.place);
    }
