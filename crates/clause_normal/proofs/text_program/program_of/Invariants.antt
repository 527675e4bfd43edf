use Rattle.std.proofs.Common.{◌≡◌, ◌<◌, ◌++◌, ℕ, List, length, map, drop}
use Rattle.std.specs.List.{AllByRecursion}
use Rattle.cti_terms.specs.declared.predicates.Pred.{Pred}
use Rattle.prolog_reader.specs.Names.{Extends}
use Rattle.prolog_reader.specs.Naming.{with_names}
use Rattle.clause_normal.specs.ChoiceNames.{rule_texts, HasOperations}
use Rattle.clause_normal.specs.Numbering.{arithmetic_of, empty_program, operation_texts, with_rules}
use Rattle.clause_normal.specs.RuleViews.{rule_of, RuleIsNamed}
use Rattle.clause_normal.proofs.text_program.program_of.Given as goal

abbrev pub invariant-rules : goal.invariant-rules
invariant-rules l =
    let left = map rule_of (drop l.rule-index l.rules) in
    record {
      kept : Extends l.fn.names l.names;
      program : (later : List (List ℕ)) → Extends l.names later → with_rules later l.program left ≡ with_rules later (empty_program later) (map rule_of l.rules);
      added : with_names l.names (rule_texts left) ≡ with_names l.fn.names (operation_texts ++ rule_texts (map rule_of l.rules));
      same : HasOperations l.fn.names → AllByRecursion RuleIsNamed l.rules → l.names ≡ l.fn.names;
      arithmetic : (later : List (List ℕ)) → Extends l.names later → l.program.arithmetic ≡ arithmetic_of later l.program.preds;
      count : length l.program.clauses ≡ l.rule-index;
      known : AllByRecursion (λ (q : Pred). q.name.0 < length l.names) l.program.preds;
    }
