use Rattle.prolog_grammar.proofs.DeepExact.{reads_within, within_reads}
use Rattle.prolog_grammar.proofs.depths.readings_within_depth.Goals as goal

pub returns-clause-each : goal.returns-clause-each
returns-clause-each c = within_reads

pub returns-clause-only : goal.returns-clause-only
returns-clause-only c = reads_within
