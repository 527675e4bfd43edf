use Rattle.std.proofs.Common.{◌≡◌, ◌∙◌, Err, None, length, ap, sym, subst}
use Rattle.prolog_reader.specs.Fit.{IsFit}
use Rattle.prolog_terms.specs.Clauses.{Clause}
use Rattle.prolog_terms.specs.Terms.{clause_of, tree_of}
use Rattle.clause_variables.proofs.ListLemmas.{all_mapped_at}
use Rattle.clause_normal.specs.Definite.{parted, parted_fault}
use Rattle.clause_normal.specs.DefiniteViews.{AnswersRule}
use Rattle.clause_normal.proofs.definite.definite_rules.Goals as goal

pub definite_rule-requires : goal.definite_rule-requires
definite_rule-requires c =
    let P = IsFit (length c.args.names.now) in
    subst (λ t. P (clause_of t)) (sym c.clause-item.is) (all_mapped_at P clause_of c.args.clauses.now c.clauses.clause-index c.clause-item.result c.requires.fit c.clauses-test.true)

pub unreachable-requires : goal.unreachable-requires
unreachable-requires c =
    let names = c.args.names.now in
    let t = tree_of c.clause-item.result.term in
    let P : Clause → Type 0 = λ k. parted_fault names k ≡ None in
    let none = subst (λ k. P (clause_of k)) (sym c.clause-item.is) (all_mapped_at P clause_of c.args.clauses.now c.clauses.clause-index c.clause-item.result c.requires.definite.each c.clauses-test.true) in
    let some = subst (AnswersRule names t (parted names t)) (c.in-Err-Fault.is ∙ ap Err c.in-Err-Fault.field-0-is) c.definite_rule.ensures in
    cc
