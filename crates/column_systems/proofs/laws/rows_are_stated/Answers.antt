use Rattle.column_systems.proofs.ClaimLaws.{rows_are_stated}
use Rattle.column_systems.proofs.laws.rows_are_stated.Goals as goal

pub returns : goal.returns
returns c = rows_are_stated
