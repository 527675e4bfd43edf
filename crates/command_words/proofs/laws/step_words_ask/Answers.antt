use Rattle.command_words.proofs.QueryWords.{steps_asks}
use Rattle.command_words.proofs.laws.step_words_ask.Goals as goal

pub returns : goal.returns
returns c = steps_asks
