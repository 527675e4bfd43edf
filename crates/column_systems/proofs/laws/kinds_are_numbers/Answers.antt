use Rattle.column_systems.proofs.ClaimLaws.{kinds_are_numbers, numbers_are_evaluated}
use Rattle.column_systems.proofs.laws.kinds_are_numbers.Goals as goal

pub returns-clause-numbers : goal.returns-clause-numbers
returns-clause-numbers c = kinds_are_numbers

pub returns-clause-evaluated : goal.returns-clause-evaluated
returns-clause-evaluated c = numbers_are_evaluated
