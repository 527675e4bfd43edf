use Rattle.cti_top.proofs.UnfailedLemmas.{answered, ran_answered, looped_answered}
use Rattle.cti_top.proofs.answered_laws.queries_are_answered.Goals as goal

pub returns-clause-run : goal.returns-clause-run
returns-clause-run c told words status u name query bytes steps known names program g asked has is as_goal =
    ran_answered told words status name bytes query steps known names program g asked has is as_goal (answered told words status u)

pub returns-clause-find_loop : goal.returns-clause-find_loop
returns-clause-find_loop c told words status u name query bytes depth known names program g asked has is as_goal =
    looped_answered told words status name bytes query depth known names program g asked has is as_goal (answered told words status u)
