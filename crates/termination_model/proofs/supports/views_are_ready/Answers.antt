use Rattle.termination_model.proofs.Readiness.{views_are_ready, views_have_few, positions_are_distinct}
use Rattle.termination_model.proofs.Naturals.{sizes_are_natural}
use Rattle.termination_model.proofs.supports.views_are_ready.Goals as goal

pub returns-clause-calls : goal.returns-clause-calls
returns-clause-calls c = views_are_ready

pub returns-clause-few : goal.returns-clause-few
returns-clause-few c = views_have_few

pub returns-clause-distinct : goal.returns-clause-distinct
returns-clause-distinct c = positions_are_distinct

pub returns-clause-natural : goal.returns-clause-natural
returns-clause-natural c = sizes_are_natural
