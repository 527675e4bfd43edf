use Rattle.bool_diagrams.specs.Rows.{IsDiagram}
use Rattle.number_examples.proofs.diagrams.are_parities_joined.Given as goal

abbrev pub invariant-loop-variable : goal.invariant-loop-variable
invariant-loop-variable l = record {
  all_known : IsDiagram l.table l.all;
  even_known : IsDiagram l.table l.even;
  odd_known : IsDiagram l.table l.odd;
}
