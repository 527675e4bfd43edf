use Rattle.command_words.proofs.QueryWords.{depth_asks}
use Rattle.command_words.proofs.laws.depth_words_ask.Goals as goal

pub returns : goal.returns
returns c = depth_asks
