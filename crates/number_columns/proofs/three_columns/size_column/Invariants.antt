use Rattle.std.proofs.Common.{◌∷◌, pos}
use Rattle.cti_terms.specs.Spell.{tree_of}
use Rattle.cti_terms.specs.Tree.{size}
use Rattle.termination_model.specs.columns.Columns.{numbers}
use Rattle.termination_model.specs.columns.Expressions.{occurring}
use Rattle.number_columns.specs.Lines.{IsLine}
use Rattle.number_columns.proofs.three_columns.size_column.Given as goal

abbrev pub invariant-loop-variable : goal.invariant-loop-variable
invariant-loop-variable l = IsLine (pos (size (λ _. 0) (tree_of l.t)) ∷ numbers 3 l.variable (occurring (tree_of l.t))) l.line
