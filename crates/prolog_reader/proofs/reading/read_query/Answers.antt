use Rattle.prolog_operators.specs.Meanings.{table_of}
use Rattle.prolog_reader.proofs.PlaceLemmas.{query_found_placed, query_refused_placed}
use Rattle.prolog_reader.proofs.OneAnswer.{only_query}
use Rattle.prolog_reader.proofs.reading.read_query.Goals as goal

pub returns-clause-only : goal.returns-clause-only
returns-clause-only c = only_query c.read_short_query.new.names (table_of c.args.ops.now) c.args.text.now c.read_short_query.result c.read_short_query.ensures.found c.read_short_query.ensures.refused

pub returns-clause-placed : goal.returns-clause-placed
returns-clause-placed c = query_found_placed c.read_short_query.new.names (table_of c.args.ops.now) c.args.text.now c.read_short_query.result c.read_short_query.ensures.found

pub returns-clause-place : goal.returns-clause-place
returns-clause-place c = query_refused_placed c.read_short_query.new.names (table_of c.args.ops.now) c.args.text.now c.read_short_query.result c.read_short_query.ensures.refused
