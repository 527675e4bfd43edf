use Rattle.termination_model.proofs.Answered.{answers_keep, answers_agree}
use Rattle.termination_model.proofs.worlds.claims_are_facts.Goals as goal

pub returns-clause-keep : goal.returns-clause-keep
returns-clause-keep c = answers_keep

pub returns-clause-agree : goal.returns-clause-agree
returns-clause-agree c = answers_agree
