use Rattle.std.proofs.Common.{[], refl}
use Rattle.lex_turns.proofs.zeros.zero_part.Goals as goal

pub returns : goal.returns
returns c = c.in_ok-part.ensures [] [] refl refl refl refl
