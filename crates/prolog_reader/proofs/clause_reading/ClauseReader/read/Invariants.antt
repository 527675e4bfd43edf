use Rattle.std.proofs.Common.{◌-◌, length}
use Rattle.prolog_reader.specs.Progress.{start_of, IsBefore}
use Rattle.prolog_reader.proofs.clause_reading.ClauseReader.read.Given as goal

abbrev pub invariant-tokens : goal.invariant-tokens
invariant-tokens l = IsBefore (start_of l.fn.lexer l.fn.names l.fn.self) l.names l.lexer l.state l.self

abbrev pub decreases-tokens : goal.decreases-tokens
decreases-tokens l = length l.fn.self.text.now - l.lexer.at
