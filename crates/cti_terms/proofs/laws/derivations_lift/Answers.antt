use Rattle.cti_terms.proofs.Lifting.{query_lifts}
use Rattle.cti_terms.proofs.laws.derivations_lift.Goals as goal

pub returns : goal.returns
returns c = query_lifts
