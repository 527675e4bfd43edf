use Rattle.std.proofs.Common.{◌≡◌, ◌≤◌, ◌+◌, [], length, map, drop, sum_by}
use Rattle.std.specs.List.{AllByRecursion}
use Rattle.prolog_terms.specs.Clauses.{Clause, nodes}
use Rattle.prolog_terms.specs.Terms.{clause_of}
use Rattle.clause_normal.specs.NormalForm.{normal_rules}
use Rattle.clause_normal.specs.RuleViews.{rule_of, RuleIsFit}
use Rattle.clause_normal.proofs.clauses.text_rules.Given as goal

abbrev pub invariant-clauses : goal.invariant-clauses
invariant-clauses l =
    let left = map clause_of (drop l.clause-index l.clauses) in
    record {
      rules : normal_rules l.names (map rule_of l.made.items) l.next left ≡ normal_rules l.names [] 1 (map clause_of l.clauses);
      few : l.next + sum_by (λ (c : Clause). nodes c.term) left ≤ 1 + sum_by (λ (c : Clause). nodes c.term) (map clause_of l.clauses);
      count : length l.made.items ≤ 16384;
      fit : AllByRecursion (RuleIsFit (length l.names)) l.made.items;
    }
