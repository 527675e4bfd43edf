use Rattle.cti_terms.proofs.Bounds.{zero_alone}
use Rattle.cti_terms.proofs.laws.builtins_are_resolved_by_zero_alone.Goals as goal

pub returns : goal.returns
returns c = zero_alone
