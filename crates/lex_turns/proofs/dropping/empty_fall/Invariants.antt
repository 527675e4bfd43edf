use Rattle.std.proofs.Common.{drop}
use Rattle.lex_turns.specs.Testing.{EmptyFall}
use Rattle.lex_turns.proofs.dropping.empty_fall.Given as goal

abbrev pub invariant-loop-own : goal.invariant-loop-own
invariant-loop-own l = record {
  rest : EmptyFall l.measures l.calls → EmptyFall l.measures (drop l.own-index l.calls);
  all : EmptyFall l.measures (drop l.own-index l.calls) → EmptyFall l.measures l.calls;
}
