use Rattle.transitions.proofs.StuckLaws.{none_descends}
use Rattle.transitions.proofs.laws.stuck_sets_exclude_lists.Goals as goal

pub returns : goal.returns
returns c = none_descends
