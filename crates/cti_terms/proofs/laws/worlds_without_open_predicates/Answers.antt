use Rattle.cti_terms.proofs.WorldLaws.{same_step, to_world, from_world, same_bounded}
use Rattle.cti_terms.proofs.laws.worlds_without_open_predicates.Goals as goal

pub returns-clause-steps : goal.returns-clause-steps
returns-clause-steps c = same_step

pub returns-clause-derivations : goal.returns-clause-derivations
returns-clause-derivations c = λ p w past g ks. (from_world p w past g ks, to_world p w past g ks)

pub returns-clause-bounded : goal.returns-clause-bounded
returns-clause-bounded c = same_bounded
