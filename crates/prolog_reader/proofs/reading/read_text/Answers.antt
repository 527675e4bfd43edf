use Rattle.prolog_reader.proofs.PlaceLemmas.{found_placed, refused_placed}
use Rattle.prolog_reader.proofs.OneAnswer.{only_text}
use Rattle.prolog_reader.proofs.reading.read_text.Goals as goal

pub returns-clause-only : goal.returns-clause-only
returns-clause-only c = only_text c.read_short.new.names c.args.text.now c.read_short.result c.read_short.ensures.found c.read_short.ensures.refused

pub returns-clause-placed : goal.returns-clause-placed
returns-clause-placed c = found_placed c.read_short.new.names c.args.text.now c.read_short.result c.read_short.ensures.found

pub returns-clause-place : goal.returns-clause-place
returns-clause-place c = refused_placed c.read_short.new.names c.args.text.now c.read_short.result c.read_short.ensures.refused
