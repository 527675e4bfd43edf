use Rattle.std.proofs.Common.{drop}
use Rattle.lex_turns.specs.Testing.{SomeFalls}
use Rattle.lex_turns.proofs.dropping.some_fall.Given as goal

abbrev pub invariant-loop-fall : goal.invariant-loop-fall
invariant-loop-fall l = record {
  rest : SomeFalls l.falls → SomeFalls (drop l.fall-index l.falls);
  all : SomeFalls (drop l.fall-index l.falls) → SomeFalls l.falls;
}
