use Rattle.cti_terms.proofs.Bounds.{facts_short}
use Rattle.cti_terms.proofs.laws.facts_are_bounded.Goals as goal

pub returns-clause-short : goal.returns-clause-short
returns-clause-short c = facts_short

pub returns-clause-bounded : goal.returns-clause-bounded
returns-clause-bounded c = λ p a n all. (2, λ ks d. facts_short p a n ks all d)
