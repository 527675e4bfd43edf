use Rattle.termination_model.proofs.AllPositionsLaws.{all_are_picked, positions_cover_pairs}
use Rattle.termination_model.proofs.supports.all_positions_cover.Goals as goal

pub returns-clause-picked : goal.returns-clause-picked
returns-clause-picked c = all_are_picked

pub returns-clause-cover : goal.returns-clause-cover
returns-clause-cover c = positions_cover_pairs
