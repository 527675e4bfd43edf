use Rattle.std.proofs.Common.{◌∙◌, ap}
use Rattle.cti_terms.specs.Spell.{tree_of}
use Rattle.number_columns.proofs.CellLaws.{tree_of_var}
use Rattle.number_columns.proofs.numeric.meet.Goals as goal

pub returns-in-Var-clause-meeting : goal.returns-in-Var-clause-meeting
returns-in-Var-clause-meeting c = λ ar k start h s. c.meet_variable.ensures.meeting ar k start h (s c.in-Var.x (ap tree_of c.in-Var.is ∙ tree_of_var c.in-Var.x))
