use Rattle.cti_terms.proofs.Bounds.{bounded_without_atoms, bounded_without_clause}
use Rattle.cti_terms.proofs.laws.finished_goals_are_bounded.Goals as goal

pub returns-clause-no_atoms : goal.returns-clause-no_atoms
returns-clause-no_atoms c = bounded_without_atoms

pub returns-clause-no_clause : goal.returns-clause-no_clause
returns-clause-no_clause c = bounded_without_clause
