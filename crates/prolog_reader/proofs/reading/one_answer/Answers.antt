use Rattle.prolog_reader.proofs.OneAnswer.{text_once, query_once}
use Rattle.prolog_reader.proofs.TextNames.{names_once, names_of}
use Rattle.prolog_reader.proofs.SomeAnswer.{text_answered, query_answered}
use Rattle.prolog_reader.proofs.reading.one_answer.Goals as goal

pub returns : goal.returns
returns c = record { text = text_once; some_text = text_answered; names = names_once; some_names = names_of; query = query_once; some_query = query_answered }
