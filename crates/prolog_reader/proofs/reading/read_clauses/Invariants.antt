use Rattle.std.proofs.Common.{◌≡◌, ◌≤◌, ◌+◌, ◌*◌, ◌-◌, ℕ, length, sum_by}
use Rattle.std.specs.List.{AllByRecursion}
use Rattle.prolog_terms.specs.Clauses.{Clause, nodes}
use Rattle.prolog_reader.specs.Fit.{IsFit}
use Rattle.prolog_operators.specs.Meanings.{table_of}
use Rattle.prolog_operators.specs.Names.{Extends}
use Rattle.prolog_operators.specs.Table.{standard}
use Rattle.prolog_reader.proofs.AnswerLemmas.{Reading}
use Rattle.prolog_reader.proofs.TextNames.{Named}
use Rattle.prolog_reader.proofs.reading.read_clauses.Given as goal

-- what is read from here stands after the clauses so far; each name took a byte
abbrev pub invariant-clauses : goal.invariant-clauses
invariant-clauses l = record {
  reading : Reading l.text l.names standard l.lexer (table_of l.ops) l.clauses;
  named : Named l.text l.fn.names l.names l.lexer;
  same : l.lexer.text ≡ l.text;
  within : l.lexer.at ≤ length l.text;
  names : length l.names ≤ length l.fn.names + l.lexer.at;
  kept : Extends l.fn.names l.names;
  each : (count : ℕ) → length l.names ≤ count → AllByRecursion (IsFit count) l.clauses;
  small : sum_by (λ (c : Clause). nodes c.term) l.clauses ≤ 2 * l.lexer.at;
}

abbrev pub decreases-clauses : goal.decreases-clauses
decreases-clauses l = length l.text - l.lexer.at
