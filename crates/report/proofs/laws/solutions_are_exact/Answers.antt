use Rattle.report.proofs.SolutionLaws.{solution_is_exact}
use Rattle.report.proofs.laws.solutions_are_exact.Goals as goal

pub returns : goal.returns
returns c = λ p names comps s program components named distinct is.
    solution_is_exact p names comps s program components is named distinct c.valid_certificates_bound_their_modes.ensures
