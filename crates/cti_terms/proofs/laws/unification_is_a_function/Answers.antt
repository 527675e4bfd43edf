use Rattle.cti_terms.proofs.OneAnswer.{one_unifier}
use Rattle.cti_terms.proofs.Unifier.{applied_instance, unifier_unifies}
use Rattle.cti_terms.proofs.UnifyLaws.{unify_complete, unify_finds}
use Rattle.cti_terms.proofs.laws.unification_is_a_function.Goals as goal

pub returns-clause-one : goal.returns-clause-one
returns-clause-one c = λ es bs cs. one_unifier

pub returns-clause-computed : goal.returns-clause-computed
returns-clause-computed c = λ es bs. (unify_complete es bs, unify_finds es bs)

pub returns-clause-unifies : goal.returns-clause-unifies
returns-clause-unifies c = λ es bs. unifier_unifies

pub returns-clause-substitution : goal.returns-clause-substitution
returns-clause-substitution c = applied_instance
