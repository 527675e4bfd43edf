use Rattle.command_words.proofs.WordLemmas.{gen_asks}
use Rattle.command_words.proofs.laws.gen_words_ask.Goals as goal

pub returns : goal.returns
returns c = gen_asks
