use Rattle.number_columns.proofs.NormSystems.{of_norms}
use Rattle.number_columns.proofs.laws.systems_of_norms.Goals as goal

pub returns : goal.returns
returns c = of_norms
