use Rattle.report.proofs.SolutionLaws.{modes_are_printed}
use Rattle.report.proofs.laws.solutions_print_modes.Goals as goal

pub returns : goal.returns
returns c = modes_are_printed
