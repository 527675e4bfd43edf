use Rattle.number_columns.proofs.NormSystems.{of_sizes_alone}
use Rattle.number_columns.proofs.laws.systems_are_of_sizes.Goals as goal

pub returns : goal.returns
returns c = of_sizes_alone
