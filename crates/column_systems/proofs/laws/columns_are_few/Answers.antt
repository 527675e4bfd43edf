use Rattle.column_systems.proofs.ClaimLaws.{norms_are_few, three_are_few}
use Rattle.column_systems.proofs.laws.columns_are_few.Goals as goal

pub returns-clause-three : goal.returns-clause-three
returns-clause-three c = three_are_few

pub returns-clause-norms : goal.returns-clause-norms
returns-clause-norms c = norms_are_few
