use Rattle.cti_top.specs.Answers as answers
use Rattle.cti_top.proofs.checking.check_of.Goals as goal

pub returns-in_ok-answer_to-in-Ok-clause-answered : goal.returns-in_ok-answer_to-in-Ok-clause-answered
returns-in_ok-answer_to-in-Ok-clause-answered g c = answers.read c.deref.result.now (rw (← c.deref.ensures.value) at c.in-Ok.ensures.bytes) c.in_ok-answer_to-in-Ok.ensures
