use Rattle.std.proofs.Common.{refl}
use Rattle.lex_turns.proofs.turning.turn.Goals as goal

pub returns-in-None-clause-step : goal.returns-in-None-clause-step
returns-in-None-clause-step c = c.in_ok-step-2.ensures.none c.in-None.is refl
