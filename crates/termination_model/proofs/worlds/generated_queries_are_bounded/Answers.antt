use Rattle.termination_model.proofs.Gen.{gen_ends, gen_has_no_number}
use Rattle.termination_model.proofs.worlds.generated_queries_are_bounded.Goals as goal

pub returns-clause-ends : goal.returns-clause-ends
returns-clause-ends c = gen_ends

pub returns-clause-no_number : goal.returns-clause-no_number
returns-clause-no_number c = gen_has_no_number
