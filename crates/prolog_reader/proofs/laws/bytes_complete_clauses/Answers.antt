use Rattle.prolog_reader.proofs.CompletionLemmas.{completed, before_unexpected, with_deep}
use Rattle.prolog_reader.proofs.laws.bytes_complete_clauses.Goals as goal

pub returns : goal.returns
returns c = record { each = completed; unexpected = before_unexpected; deep = with_deep }
