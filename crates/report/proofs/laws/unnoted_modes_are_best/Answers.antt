use Rattle.report.proofs.UnnotedLaws.{unnoted_are_best}
use Rattle.report.proofs.laws.unnoted_modes_are_best.Goals as goal

pub returns : goal.returns
returns c = unnoted_are_best
