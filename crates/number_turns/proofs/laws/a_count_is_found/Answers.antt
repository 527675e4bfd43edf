use Rattle.number_turns.proofs.Examples.{count_and_down_turns}
use Rattle.number_turns.proofs.laws.a_count_is_found.Goals as goal

pub returns : goal.returns
returns c = count_and_down_turns
