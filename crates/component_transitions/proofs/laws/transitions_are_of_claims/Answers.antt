use Rattle.std.proofs.Common.{refl}
use Rattle.component_transitions.proofs.laws.transitions_are_of_claims.Goals as goal

pub returns : goal.returns
returns c m kinds rows k j b d l = (refl, refl, refl)
