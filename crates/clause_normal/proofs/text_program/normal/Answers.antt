use Rattle.std.proofs.Common.{◌≡◌, ◌∙◌, ◌++◌, [], List, Result, Ok, map, sym, ap, subst}
use Rattle.std.specs.List.{AllByRecursion}
use Rattle.cti_terms.specs.Listing.{Listing}
use Rattle.clause_normal.specs.declared.rule.Rule.{Rule as CodeRule}
use Rattle.clause_normal.specs.NormalForm.{Fault, normal_rules, program_of}
use Rattle.clause_normal.specs.Numbering.{empty_program, operation_texts, with_equality, with_rules}
use Rattle.clause_normal.specs.RuleViews.{rule_of}
use Rattle.clause_normal.specs.Kinds.{IsOrdinaryCall}
use Rattle.clause_normal.specs.Rules.{Rule}
use Rattle.clause_normal.proofs.KindLemmas.{rules_ordinary}
use Rattle.clause_normal.proofs.Later.{rules_stay}
use Rattle.prolog_reader.specs.Naming.{with_names}
use Rattle.clause_normal.specs.ChoiceNames.{rule_texts, made_texts}
use Rattle.clause_normal.proofs.text_program.normal.Goals as goal

pub whole_program-requires-clause-ordinary : goal.whole_program-requires-clause-ordinary
whole_program-requires-clause-ordinary c =
    let names = c.args.names.now in
    let A : List CodeRule → Type 0 = λ rs. AllByRecursion (λ (r : Rule). IsOrdinaryCall names r.head) (map rule_of rs) in
    subst A (sym c.deref.ensures.value) (rules_ordinary names _ (map rule_of c.in_ok-rules.rules.items) c.in_ok-rules.ensures.rules)

pub returns-clause-exact : goal.returns-clause-exact
returns-clause-exact c =
    let names = c.args.names.now in
    let later = c.whole_program.new.names in
    let cs = c.args.text.now.clauses in
    let program : c.in_ok-program.program ≡ with_equality later (with_rules later (empty_program later) (map rule_of c.in_ok-rules.rules.items)) =
    c.in_ok-program.ensures.program ∙ ap (λ (rs : List CodeRule). with_equality later (with_rules later (empty_program later) (map rule_of rs))) c.deref.ensures.value in
    ap (program_of later) (rules_stay names later c.in_ok-program.ensures.kept [] 1 cs c.requires.fit.each ∙ ap (normal_rules names [] 1) (sym c.as_slice.ensures) ∙ c.in_ok-rules.ensures.rules)
    ∙ ap (λ (p : Listing). Ok p) (sym program)

pub returns-clause-names : goal.returns-clause-names
returns-clause-names c =
    let names = c.args.names.now in
    c.in_ok-program.ensures.added ∙ ap (λ (rs : List CodeRule). with_names names (operation_texts ++ rule_texts (map rule_of rs))) c.deref.ensures.value
    ∙ ap (λ (r : Result (List Rule) Fault). with_names names (made_texts r)) (sym (ap (normal_rules names [] 1) (sym c.as_slice.ensures) ∙ c.in_ok-rules.ensures.rules))
