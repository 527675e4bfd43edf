use Rattle.lex_checker.proofs.Bounded.{valid_bounds}
use Rattle.lex_checker.proofs.bounding.valid_lists_bound_their_modes.Goals as goal

pub returns : goal.returns
returns c = valid_bounds c.holding_modes_show.ensures
