use Rattle.column_systems.proofs.ClaimLaws.{rows_are_short, systems_are_of_claims}
use Rattle.column_systems.proofs.laws.systems_are_of_claims.Goals as goal

pub returns-clause-systems : goal.returns-clause-systems
returns-clause-systems c = systems_are_of_claims

pub returns-clause-short : goal.returns-clause-short
returns-clause-short c = rows_are_short
