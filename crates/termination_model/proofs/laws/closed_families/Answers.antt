use Rattle.termination_model.proofs.GroundLaws.{in_each_is_closed, least_where, least_exact}
use Rattle.termination_model.proofs.laws.closed_families.Goals as goal

pub returns-clause-closed : goal.returns-clause-closed
returns-clause-closed c = in_each_is_closed

pub returns-clause-least : goal.returns-clause-least
returns-clause-least c = least_where

pub returns-clause-exact : goal.returns-clause-exact
returns-clause-exact c = least_exact

pub returns-clause-one : goal.returns-clause-one
returns-clause-one c = λ truth p family other l m. l.least other m.closed
