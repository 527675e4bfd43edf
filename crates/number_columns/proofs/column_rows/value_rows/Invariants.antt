use Rattle.cti_terms.specs.Spell.{tree_of}
use Rattle.number_columns.specs.Lines.{AreLinesTo}
use Rattle.number_columns.proofs.column_rows.value_rows.Given as goal

abbrev pub invariant-loop-variable : goal.invariant-loop-variable
invariant-loop-variable l = AreLinesTo l.arith l.vars (tree_of l.t) l.variable l.lines
