use Rattle.report.proofs.ValidParts.{parts_are_valid}
use Rattle.report.proofs.laws.assembled_parts_are_valid.Goals as goal

pub returns : goal.returns
returns c = parts_are_valid
