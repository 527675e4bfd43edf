use Rattle.std.proofs.Common.{◌≡◌, ◌∙◌, map, sym, ap, subst, Err}
use Rattle.prolog_terms.specs.declared.term.ReadTerm.{ReadTerm}
use Rattle.prolog_terms.specs.Terms.{tree_of, clause_of}
use Rattle.clause_normal.specs.Bodies.{no_goals}
use Rattle.clause_normal.specs.Faults.{IfFault}
use Rattle.clause_normal.specs.NormalForm.{Made, clause, with_form, with_clause}
use Rattle.clause_normal.specs.RuleViews.{rule_of}
use Rattle.clause_normal.proofs.OutcomeLemmas.{number_err}
use Rattle.clause_normal.proofs.clauses.add_clause.Goals as goal

pub returns-in_ok-add_fact-in-Fact-clause-made : goal.returns-in_ok-add_fact-in-Fact-clause-made
returns-in_ok-add_fact-in-Fact-clause-made c =
    let made = map rule_of c.args.made.now.items in
    let T : ReadTerm → Made = λ t. with_form c.args.names.now made c.args.next (record { term = tree_of t; vars = c.args.clause.now.vars }) (clause (tree_of t) no_goals) in
    ap (with_form c.args.names.now made c.args.next (clause_of c.args.clause.now)) c.in-Fact.ensures.form.0
    ∙ ap T (sym c.in-Fact.ensures.form.1) ∙ c.in_ok-add_fact-in-Fact.ensures.made c.args.clause.now.vars c.args.next

pub returns-in_err-add_fact-in-Fact-clause-made : goal.returns-in_err-add_fact-in-Fact-clause-made
returns-in_err-add_fact-in-Fact-clause-made c =
    let made = map rule_of c.args.made.now.items in
    let T : ReadTerm → Made = λ t. with_form c.args.names.now made c.args.next (record { term = tree_of t; vars = c.args.clause.now.vars }) (clause (tree_of t) no_goals) in
    let same : with_clause c.args.names.now made c.args.next (clause_of c.args.clause.now) ≡ T c.in-Fact.term.now =
    ap (with_form c.args.names.now made c.args.next (clause_of c.args.clause.now)) c.in-Fact.ensures.form.0 ∙ ap T (sym c.in-Fact.ensures.form.1) in
    number_err _ _ c.from_residual.result c.in_err-add_fact-in-Fact.field-0.0 c.from_residual.ensures
    (subst (λ (m : Made). IfFault c.in_err-add_fact-in-Fact.field-0.0 (λ f. m ≡ Err f)) (sym same) (c.in_err-add_fact-in-Fact.ensures.made c.args.clause.now.vars c.args.next))
