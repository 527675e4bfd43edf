use Rattle.prolog_tokens.proofs.ReadBackLemmas.{name_read, list_read}
use Rattle.prolog_tokens.proofs.quoting.quoted_names_are_read_back.Goals as goal

pub returns : goal.returns
returns c = record { name = name_read; empty_list = list_read }
