use Rattle.ld_resolver.proofs.FirstAnswers.{given_first}
use Rattle.ld_resolver.proofs.laws.given_answers_are_the_first.Goals as goal

pub returns : goal.returns
returns c = given_first
