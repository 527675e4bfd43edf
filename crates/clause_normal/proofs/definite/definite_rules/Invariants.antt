use Rattle.std.proofs.Common.{◌≡◌, ◌++◌, length, map, drop}
use Rattle.std.specs.List.{AllByRecursion}
use Rattle.prolog_terms.specs.Terms.{clause_of}
use Rattle.clause_normal.specs.Definite.{rules_of}
use Rattle.clause_normal.specs.RuleViews.{rule_of, RuleIsFit}
use Rattle.clause_normal.proofs.definite.definite_rules.Given as goal

abbrev pub invariant-clauses : goal.invariant-clauses
invariant-clauses l = record {
  rules : map rule_of l.rules.items ++ rules_of l.names (map clause_of (drop l.clause-index l.clauses)) ≡ rules_of l.names (map clause_of l.clauses);
  fit : AllByRecursion (RuleIsFit (length l.names)) l.rules.items;
  count : length l.rules.items ≡ l.clause-index;
}
