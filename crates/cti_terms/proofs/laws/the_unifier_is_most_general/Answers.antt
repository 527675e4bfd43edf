use Rattle.cti_terms.proofs.MostGeneral.{solved_found, unify_general}
use Rattle.cti_terms.proofs.laws.the_unifier_is_most_general.Goals as goal

pub returns-clause-found : goal.returns-clause-found
returns-clause-found c = λ es a. solved_found a es

pub returns-clause-general : goal.returns-clause-general
returns-clause-general c = unify_general
