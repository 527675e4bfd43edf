use Rattle.number_turns.proofs.Turnings.{found_is_turn, refuted_is_turn}
use Rattle.number_turns.proofs.laws.turns_are_of_the_search.Goals as goal

pub returns-clause-found : goal.returns-clause-found
returns-clause-found c = found_is_turn

pub returns-clause-refuted : goal.returns-clause-refuted
returns-clause-refuted c = refuted_is_turn
