use Rattle.cti_terms.proofs.OneAnswer.{one_resolvent}
use Rattle.cti_terms.proofs.ResolveLaws.{resolve_complete, resolve_finds}
use Rattle.cti_terms.proofs.laws.resolution_is_a_function.Goals as goal

pub returns-clause-one : goal.returns-clause-one
returns-clause-one c = one_resolvent

pub returns-clause-computed : goal.returns-clause-computed
returns-clause-computed c = λ p g k bs h. (resolve_complete p g k bs h, resolve_finds p g k bs h)
