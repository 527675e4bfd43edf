use Rattle.transition_tests.proofs.ProvedTargets.{size_rows_proved}
use Rattle.transition_tests.proofs.ZeroRows.{rows_over_zeros}
use Rattle.transition_tests.proofs.laws.size_rows_are_proved.Goals as goal

pub returns-clause-proved : goal.returns-clause-proved
returns-clause-proved c = size_rows_proved

pub returns-clause-shown : goal.returns-clause-shown
returns-clause-shown c = rows_over_zeros
