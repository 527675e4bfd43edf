use Rattle.std.proofs.Common.{◌≡◌, ◌∙◌, ◌++◌, [], ℕ, List, map, sym, ap, subst, arith}
use Rattle.std.specs.List.{AllByRecursion}
use Rattle.prolog_reader.specs.Naming.{with_names}
use Rattle.prolog_terms.specs.Terms.{clause_of}
use Rattle.clause_normal.specs.declared.rule.Rule.{Rule as CodeRule}
use Rattle.clause_normal.specs.ChoiceNames.{rule_texts}
use Rattle.clause_normal.specs.Definite.{rules_of}
use Rattle.clause_normal.specs.Kinds.{IsOrdinaryCall}
use Rattle.clause_normal.specs.Numbering.{empty_program, operation_texts, with_equality, with_rules}
use Rattle.clause_normal.specs.Rules.{Rule}
use Rattle.clause_normal.specs.RuleViews.{rule_of}
use Rattle.clause_normal.proofs.DefiniteLater.{definite_named, definite_texts, rules_of_stay}
use Rattle.clause_normal.proofs.DefiniteLemmas.{definite_rules}
use Rattle.clause_normal.proofs.KindLemmas.{rules_ordinary}
use Rattle.clause_normal.proofs.definite.definite_program.Goals as goal

pub whole_program-requires-clause-ordinary : goal.whole_program-requires-clause-ordinary
whole_program-requires-clause-ordinary c =
    let names = c.args.names.now in
    let cs = map clause_of c.args.clauses.now in
    let A : List Rule → Type 0 = λ rs. AllByRecursion (λ (r : Rule). IsOrdinaryCall names r.head) rs in
    let rules : map rule_of c.deref.result.now ≡ rules_of names cs = ap (λ (rs : List CodeRule). map rule_of rs) c.deref.ensures.value ∙ c.in_ok-rules.ensures.rules in
    subst A (sym rules) (rules_ordinary names cs (rules_of names cs) (definite_rules names [] 1 cs c.requires.definite.each (omega (arith, c.requires.definite.few))))

pub returns-clause-program : goal.returns-clause-program
returns-clause-program c =
    let names = c.args.names.now in
    let later = c.whole_program.new.names in
    let cs = map clause_of c.args.clauses.now in
    let rules : map rule_of c.deref.result.now ≡ rules_of later cs =
    ap (λ (rs : List CodeRule). map rule_of rs) c.deref.ensures.value ∙ c.in_ok-rules.ensures.rules ∙ sym (rules_of_stay names later c.in_ok-program.ensures.kept cs c.requires.fit) in
    c.in_ok-program.ensures.program ∙ ap (λ (rs : List Rule). with_equality later (with_rules later (empty_program later) rs)) rules

pub returns-clause-names : goal.returns-clause-names
returns-clause-names c =
    let names = c.args.names.now in
    let cs = map clause_of c.args.clauses.now in
    let rules : map rule_of c.deref.result.now ≡ rules_of names cs = ap (λ (rs : List CodeRule). map rule_of rs) c.deref.ensures.value ∙ c.in_ok-rules.ensures.rules in
    c.in_ok-program.ensures.added
    ∙ ap (λ (rs : List Rule). with_names names (operation_texts ++ rule_texts rs)) rules
    ∙ ap (λ (ns : List (List ℕ)). with_names names (operation_texts ++ ns)) (definite_texts names cs)

pub returns-in_err-program-clause-same : goal.returns-in_err-program-clause-same
returns-in_err-program-clause-same c has =
    let rules = ap (λ (rs : List CodeRule). map rule_of rs) c.deref.ensures.value ∙ c.in_ok-rules.ensures.rules in
    c.in_err-program.ensures.same has (definite_named c.args.names.now (map clause_of c.args.clauses.now) c.deref.result.now rules)

pub returns-clause-same : goal.returns-clause-same
returns-clause-same c has =
    let rules = ap (λ (rs : List CodeRule). map rule_of rs) c.deref.ensures.value ∙ c.in_ok-rules.ensures.rules in
    c.in_ok-program.ensures.same has (definite_named c.args.names.now (map clause_of c.args.clauses.now) c.deref.result.now rules)
