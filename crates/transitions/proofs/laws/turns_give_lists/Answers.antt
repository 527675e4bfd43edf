use Rattle.transitions.proofs.TurnLaws.{turns_give_lists}
use Rattle.transitions.proofs.laws.turns_give_lists.Goals as goal

pub returns : goal.returns
returns c = turns_give_lists
