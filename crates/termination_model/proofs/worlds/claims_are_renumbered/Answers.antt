use Rattle.termination_model.proofs.Renumbered.{renumbered_show, renumbered_admit, renumbered_take}
use Rattle.termination_model.proofs.worlds.claims_are_renumbered.Goals as goal

pub returns-clause-show : goal.returns-clause-show
returns-clause-show c = renumbered_show

pub returns-clause-admit : goal.returns-clause-admit
returns-clause-admit c = renumbered_admit

pub returns-clause-take : goal.returns-clause-take
returns-clause-take c = renumbered_take
