use Rattle.cert_modes.proofs.ClaimedLaws.{holding_modes}
use Rattle.cert_modes.proofs.laws.holding_modes_show.Goals as goal

pub returns : goal.returns
returns c = holding_modes
