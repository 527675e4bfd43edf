use Rattle.cert_checker.proofs.Excludes.{excluded}
use Rattle.cert_checker.proofs.laws.refutations_are_those_of_views.Goals as goal

pub returns : goal.returns
returns c = excluded
