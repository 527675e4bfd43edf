use Rattle.column_systems.proofs.ClaimLaws.{sizes_are_of_columns}
use Rattle.column_systems.proofs.laws.sizes_are_of_columns.Goals as goal

pub returns : goal.returns
returns c = sizes_are_of_columns
